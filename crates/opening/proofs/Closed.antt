-- The closed form is what a start and k steps lead to, for every k up to T: by induction on k, one step more in each kind of place.
-- Assumes nothing.
use mathlib.Core.Bool.{Bool, true, false, cond}
use mathlib.Core.List.{List}
use mathlib.Core.Path.{◌≡◌, refl, sym, ap, ap₂, ◌∙◌}
use Prim.Native.Nat.{ℕ, zero, suc, ◌+◌, ◌-◌, ◌≤◌, ◌<◌}
use native.Mathlib.Omega.{arith}
use borrow.Author.Tests.{le-ltb, lt-leb, eq-eqb}
use lib.Dec.{leb}
use lib.ListN.{length}
use Rattle.answers.specs.Answers.{Done}
use Rattle.words.specs.Lists.{join}
use Rattle.record.specs.Opened.{held}
use Rattle.sizes.specs.Sizes.{blocks, total_steps}
use Rattle.sizes.proofs.Passed.{facts_allowed}
use Rattle.steps.specs.declared.Stepped.{Stepped}
use Rattle.steps.specs.declared.Work.{Work}
use Rattle.steps.specs.State.{begun, start_answer, started}
use Rattle.steps.specs.Step.{broken, stepped, output_after}
use Rattle.steps.specs.Work.{work_at}
use Rattle.steps.proofs.Sound.{at-decipher, at-padding, at_inner, at_outer_pad, at_outer_hash, at-answering}
use Rattle.opening.specs.Closed.{held_after, running, report_after, out_after, after}
use Rattle.opening.specs.Given.{Given, size, decrypted}
use Rattle.opening.proofs.Fields.{words-none, kept-none, held_none, mark-none}
use Rattle.opening.proofs.Fits.{Fits, fits, held_fits}
use Rattle.opening.proofs.Output.{out-blocks, length-out}
use Rattle.opening.proofs.Place.{Place, deciphers, reads, hashes, pads, ends, answers, place}
use Rattle.opening.proofs.Turn.{Turns, report_before, turn-deciphers, turn-reads, turn-hashes, turn-pads, turn-ends, turn-answers}

module _ (g : Given) {o : List ℕ} (f : Fits g o) where
  -- the number of steps
  abbrev T : ℕ
  T = total_steps (size g)

  -- the length held never exceeds n - 33
  pub held-within : (k : ℕ) → held_after g k ≤ size g - 33
  unfolding held_after
  held-within k = by (leb k (blocks (size g)))
    where
      by : (t : Bool) → cond t 0 (held (decrypted g)) ≤ size g - 33
      by true = omega arith
      by false = omega (arith, held_fits g f)

  -- so no step before T finds the opening broken
  pub never_broken : (k : ℕ) → k < T → broken (running g k) (length g.r) (length (out_after g o k)) ≡ false
  unfolding broken running
  never_broken k h =
      rw (
        facts_allowed (size g) f.body,
        eq-eqb T T refl,
        lt-leb T k h,
        le-ltb (size g - 33) (held_after g k) (held-within k),
        eq-eqb (length g.r) (size g + 16) f.sized,
        length-out g f k,
        le-ltb (length o) (size g) f.room,
      )

  -- ---- one step

  -- the work that follows from n and k is done
  works : (k : ℕ) (w : Work) → k < T → work_at (size g) k ≡ w → Turns g o k w
      → (stepped (report_after g k).opening g.r (out_after g o k) ≡ report_after g (suc k))
      × (output_after (report_after g k).opening g.r (out_after g o k) ≡ out_after g o (suc k))
  unfolding stepped output_after running
  works k w h e t =
      let b = never_broken k h in
      (rw (report_before g k h, b, e) t.0, rw (report_before g k h, b, e) t.1)

  -- every step before T leads from the closed form to the closed form
  pub goes_on : (k : ℕ) → k < T
      → (stepped (report_after g k).opening g.r (out_after g o k) ≡ report_after g (suc k))
      × (output_after (report_after g k).opening g.r (out_after g o k) ≡ out_after g o (suc k))
  goes_on k h = by (place (size g) k h)
    where
      by : Place (size g) k
          → (stepped (report_after g k).opening g.r (out_after g o k) ≡ report_after g (suc k))
          × (output_after (report_after g k).opening g.r (out_after g o k) ≡ out_after g o (suc k))
      by (deciphers b) = works k (Work.Decipher k) h (at-decipher (size g) k b) (turn-deciphers g f k b)
      by (reads e) = works k Work.ReadPadding h (at-padding (size g) k e) (rw e (turn-reads g f))
      by (hashes j b e) =
          let is : k - (blocks (size g) + 1) ≡ j = omega arith in
          works k (Work.Inner j) h (at_inner (size g) k (omega arith) (omega arith) ∙ ap Work.Inner is) (rw e (turn-hashes g f j b))
      by (pads e) = works k Work.OuterPad h (at_outer_pad (size g) k e) (rw e (turn-pads g f))
      by (ends e) = works k Work.OuterHash h (at_outer_hash (size g) k e) (rw e (turn-ends g f))
      by (answers e) = works k Work.Answering h (at-answering (size g) k (omega arith)) (rw e (turn-answers g f))

  -- ---- from the start

  -- an accepted start is the closed form before the first step
  pub begins : start_answer (length g.r) (length o) ≡ Done
      → (started g.keys g.seq g.type g.version (length g.r) (length o) ≡ report_after g 0) × (o ≡ out_after g o 0)
  unfolding started begun running size total_steps join
  begins e = (
    rw (e, report_before g 0 (omega arith), words-none g 0 (omega arith), kept-none g 0 (omega arith), held_none g 0 (omega arith), mark-none g 0 (omega arith)),
    sym (out-blocks g f 0 (omega arith)),
  )

-- ---- start and k steps

-- state, report and output after k steps are those of the closed form, for every k from 0 to T
pub closed_form : (g : Given) (o : List ℕ) → length g.version ≡ 2 → start_answer (length g.r) (length o) ≡ Done
    → (k : ℕ) → k ≤ total_steps (size g) → after g o k ≡ (report_after g k, out_after g o k)
unfolding after
closed_form g o v e zero h = let b = begins g (fits g o v e) e in ap₂ (λ (s : Stepped) (x : List ℕ). (s, x)) b.0 b.1
closed_form g o v e (suc k) h =
    let t = goes_on g (fits g o v e) k (omega arith) in
    rw (closed_form g o v e k (omega arith)) (ap₂ (λ (s : Stepped) (x : List ℕ). (s, x)) t.0 t.1)
