-- The promises of `noustrel_seal` and `noustrel_open`, with keys and IV of the right sizes, are the equations of our sealer and our
-- opener; the demands follow of every outcome that they admit. Assumes nothing.
use mathlib.Core.Bool.{true, false, ◌&&◌}
use mathlib.Core.List.{List}
use mathlib.Core.Path.{◌≡◌, refl, sym, ap, subst, ◌∙◌}
use Prim.Native.Nat.{ℕ, suc}
use native.Mathlib.Nat.{suc-ne-zero}
use borrow.Author.Tests.{eqb-true, eq-eqb, ne_eqb}
use lib.ListN.{length, take}
use Rattle.words.specs.Bytes.{be}
use Rattle.words.proofs.Tests.{both, untrue}
use Rattle.record.specs.Sealing.{Sealed}
use Rattle.opening.specs.declared.Opened.{Opened}
use Rattle.opening.specs.Given.{size}
use Rattle.border.specs.Border.{has, key_sizes, keys_from, given_from, role_of}
use Rattle.demands.specs.Exported.{KeySizes, sealed_to, opened_to, ExportedSeal, ExportedOpen, ExportedRoundTrip, ExportedAcceptance, ExportedCount, ExportedCallsAlike, ExportedRoles, SealWrongSize, OpenWrongSize}
use Rattle.demands.specs.Openers.{our_sealer, our_opener, StatedRecord, RoundTrip, Exact, ExactAcceptance, BothRefuse}
use Rattle.demands.proofs.Demand2.{stated_record, round_trip, exact_acceptance, calls_alike}

-- ---- sizes

-- the test of the keys' sizes
sizes-true : {mac enc : List ℕ} → KeySizes mac enc → key_sizes mac enc ≡ true
unfolding key_sizes has
sizes-true {mac} {enc} k = rw (eq-eqb (length mac) 32 k.mac-size, eq-eqb (length enc) 16 k.enc_size)

-- which says no where they are wrong
true-sizes : (mac enc : List ℕ) → key_sizes mac enc ≡ true → KeySizes mac enc
unfolding key_sizes has
true-sizes mac enc e =
    let a = both (has 32 mac) (has 16 enc) e in
    record { mac-size = eqb-true (length mac) 32 a.0; enc_size = eqb-true (length enc) 16 a.1 }

-- ---- the functions

-- an outcome by its parts
seal_outcome : {a l : ℕ} {x : List ℕ} {y : Sealed × List ℕ} → a ≡ y.0.answer → l ≡ y.0.length → x ≡ y.1 → sealed_to a l x ≡ y
seal_outcome e f g = rw (e, f, g)

open_outcome : {a l c : ℕ} {x : List ℕ} {y : Opened × List ℕ} → a ≡ y.0.answer → l ≡ y.0.length → c ≡ y.0.count → x ≡ y.1
    → opened_to a l c x ≡ y
open_outcome e f g h = rw (e, f, g, h)

-- by the promise's equations, and back
pub exported_seal : ExportedSeal
unfolding ExportedSeal has
exported_seal mac enc seq type version iv text out a x l k v =
    let right : (key_sizes mac enc && has 16 iv) ≡ true = rw (sizes-true k, eq-eqb (length iv) 16 v) in
    let y = our_sealer (keys_from mac enc) seq type (be 2 version) iv text out in (
      λ p. seal_outcome (p.result ∙ rw right) (p.reported ∙ rw right) (p.output ∙ rw right),
      λ e.
          record {
            result = ap (λ (z : Sealed × List ℕ). z.0.answer) e ∙ (rw right);
            output = ap (λ (z : Sealed × List ℕ). z.1) e ∙ (rw right);
            reported = ap (λ (z : Sealed × List ℕ). z.0.length) e ∙ (rw right);
          },
    )

-- likewise
pub exported_open : ExportedOpen
unfolding ExportedOpen
exported_open mac enc seq type version r out a x l c k =
    let right = sizes-true k in (
      λ p. open_outcome (p.result ∙ rw right) (p.reported ∙ rw right) (p.counted ∙ rw right) (p.output ∙ rw right),
      λ e.
          record {
            result = ap (λ (z : Opened × List ℕ). z.0.answer) e ∙ (rw right);
            output = ap (λ (z : Opened × List ℕ). z.1) e ∙ (rw right);
            reported = ap (λ (z : Opened × List ℕ). z.0.length) e ∙ (rw right);
            counted = ap (λ (z : Opened × List ℕ). z.0.count) e ∙ (rw right);
          },
    )

-- ---- the demands

-- ROUND TRIP
pub exported_round_trip : ExportedRoundTrip
unfolding ExportedSeal ExportedOpen ExportedRoundTrip RoundTrip StatedRecord
exported_round_trip mac enc seq type version iv text out o a b x y l k c keys v ivBytes bytes h enough p q =
    let s = (exported_seal mac enc seq type version iv text out a x l keys v).0 p in
    let z = (exported_open mac enc seq type version (take l x) o b y k c keys).0 q in
    let trip = round_trip (keys_from mac enc) seq type (be 2 version) iv text out o bytes (record { size = v; bytes = ivBytes }) h enough in (
      ap (λ (w : Sealed × List ℕ). w.0.answer) (s ∙ stated_record (keys_from mac enc) seq type (be 2 version) iv text out h),
      z ∙ ap (λ (w : Sealed × List ℕ). our_opener (given_from mac enc seq type version (take w.0.length w.1)) o) s ∙ trip,
    )

-- EXACT ACCEPTANCE
pub exported_acceptance : ExportedAcceptance
unfolding ExportedOpen ExportedAcceptance ExactAcceptance
exported_acceptance mac enc seq type version r out a x l c keys bytes h p =
    let g = given_from mac enc seq type version r in
    subst (Exact g out) (sym ((exported_open mac enc seq type version r out a x l c keys).0 p)) (exact_acceptance g out bytes h)

-- CALLS LOOK ALIKE
pub exported_count : ExportedCount
unfolding ExportedOpen ExportedCount size
exported_count mac enc seq type version r out a x l c keys h p =
    ap (λ (y : Opened × List ℕ). y.0.count) ((exported_open mac enc seq type version r out a x l c keys).0 p)
    ∙ calls_alike.count (given_from mac enc seq type version r) out h

pub exported_calls_alike : ExportedCallsAlike
unfolding ExportedOpen ExportedCallsAlike
exported_calls_alike mac enc seq type version r out a x l c mac' enc' seq' type' version' r' out' a' x' l' c' keys keys' same h h' p q =
    let g = given_from mac enc seq type version r in
    let g' = given_from mac' enc' seq' type' version' r' in
    let y = (exported_open mac enc seq type version r out a x l c keys).0 p in
    let z = (exported_open mac' enc' seq' type' version' r' out' a' x' l' c' keys').0 q in
    subst (λ (w : Opened × List ℕ). BothRefuse g g' out out' w (opened_to a' l' c' x')) (sym y)
    (subst (BothRefuse g g' out out' (our_opener g out)) (sym z) (calls_alike.alike g g' out out' same h h'))

-- ROLES
pub exported_roles : ExportedRoles
unfolding ExportedRoles role_of
exported_roles = (refl, λ n. rw (ne_eqb (suc n) 0 (suc-ne-zero n)))

-- ---- wrong sizes

pub seal_wrong-size : SealWrongSize
unfolding SealWrongSize has
seal_wrong-size mac enc seq type version iv text out a x l wrong =
    let no : (key_sizes mac enc && has 16 iv) ≡ false =
    untrue _
    (λ e.
    let s = both (key_sizes mac enc) (has 16 iv) e in
    wrong (true-sizes mac enc s.0, eqb-true (length iv) 16 s.1)) in (
      λ p. seal_outcome (p.result ∙ rw no) (p.reported ∙ rw no) (p.output ∙ rw no),
      λ e.
          record {
            result = ap (λ (z : Sealed × List ℕ). z.0.answer) e ∙ (rw no);
            output = ap (λ (z : Sealed × List ℕ). z.1) e ∙ (rw no);
            reported = ap (λ (z : Sealed × List ℕ). z.0.length) e ∙ (rw no);
          },
    )

pub open_wrong-size : OpenWrongSize
unfolding OpenWrongSize
open_wrong-size mac enc seq type version r out a x l c wrong =
    let no : key_sizes mac enc ≡ false = untrue _ (λ e. wrong (true-sizes mac enc e)) in (
      λ p. open_outcome (p.result ∙ rw no) (p.reported ∙ rw no) (p.counted ∙ rw no) (p.output ∙ rw no),
      λ e.
          record {
            result = ap (λ (z : Opened × List ℕ). z.0.answer) e ∙ (rw no);
            output = ap (λ (z : Opened × List ℕ). z.1) e ∙ (rw no);
            reported = ap (λ (z : Opened × List ℕ). z.0.length) e ∙ (rw no);
            counted = ap (λ (z : Opened × List ℕ). z.0.count) e ∙ (rw no);
          },
    )
