-- What sealing and opening promise, taken together, by the cases: sealing refuses, there is too little room to open, or the text
-- comes back by the round trip. Assumes nothing.
use mathlib.Core.Bool.{Bool, true, false, cond}
use mathlib.Core.List.{List}
use mathlib.Core.Path.{◌≡◌, refl, sym, ap, ◌∙◌}
use Prim.Native.Nat.{ℕ, ◌≤◌, ◌<◌}
use native.Mathlib.Omega.{arith}
use borrow.Author.Tests.{ltb-true, ltb-false, ne_eqb}
use lib.Dec.{ltb}
use lib.ListN.{length, take}
use lib.Seq.{length-take-le}
use Rattle.answers.specs.Answers.{Done, TooLong, NoRoom}
use Rattle.words.specs.Bytes.{Bytes}
use Rattle.words.proofs.Lists.{length-put}
use Rattle.sm4.specs.Block.{Block}
use Rattle.record.specs.declared.RecordKeysCbc.{RecordKeysCbc}
use Rattle.record.specs.Sealing.{Sealed}
use Rattle.record.specs.Limits.{max_plaintext}
use Rattle.record.specs.Promise.{Protected}
use Rattle.record.specs.Sealing.{answer_of, report_of, output_of as sealedOutput}
use Rattle.record.specs.Standard.{sealed_length, sealed_record}
use Rattle.sizes.specs.Sizes.{total_steps}
use Rattle.steps.specs.State.{start_answer}
use Rattle.opening.specs.declared.Opened.{Opened}
use Rattle.opening.specs.Deprotected.{deprotected, output_of}
use Rattle.opening.specs.Given.{Given}
use Rattle.opening.specs.Promise.{Deprotected}
use Rattle.demands.specs.Checks.{NotOpened}
use Rattle.demands.specs.Openers.{our_opener, laid, RoundTrip}
use Rattle.demands.proofs.Checks.{not_opened}
use Rattle.demands.proofs.Demand2.{round_trip, sealed-passes}
use Rattle.there_and_back.specs.Promise.{ThereAndBack}
use Rattle.there_and_back.specs.There.{body_length, report_for, out_for}

-- what answer 0 of sealing says of the sizes
sealed-done : (L room : ℕ) → answer_of L room ≡ Done → (L ≤ max_plaintext) × (sealed_length L ≤ room)
unfolding answer_of
sealed-done L room e = by (ltb 16384 L) refl (ltb room (sealed_length L)) refl e
  where
    by : (a : Bool) → ltb 16384 L ≡ a → (b : Bool) → ltb room (sealed_length L) ≡ b
        → cond a TooLong (cond b NoRoom Done) ≡ Done → (L ≤ max_plaintext) × (sealed_length L ≤ room)
    by false f false g z = (ltb-false 16384 L f, ltb-false room (sealed_length L) g)
    by true f b g z = absurd (omega arith)
    by false f true g z = absurd (omega arith)

module _ {keys : RecordKeysCbc} {seq type : ℕ} {version iv text r : List ℕ} {s : Sealed} {r' : List ℕ}
    (p : Protected keys seq type version iv text r s r') where
  -- the answer of sealing
  answered : s.answer ≡ answer_of (length text) (length r)
  unfolding report_of
  answered = ap (λ (x : Sealed). x.answer) p.result

  -- sealing refuses: nothing is opened
  pub not-sealed : (o : List ℕ) → (s.answer ≡ Done → ⊥)
      → ThereAndBack keys seq type version iv text r o (record { answer = s.answer; length = 0; count = 0 }) r' o
  unfolding report_for out_for
  not-sealed o h =
      let no = ne_eqb (answer_of (length text) (length r)) Done (λ e. h (answered ∙ e)) in
      record { result = rw (no, answered); sealed = p.output; output = rw no }

  -- sealing is done
  module _ (done : s.answer ≡ Done) where
    -- and so there was room for it
    is_done : answer_of (length text) (length r) ≡ Done
    is_done = sym answered ∙ done

    -- what the sizes then are
    sizes : (length text ≤ max_plaintext) × (sealed_length (length text) ≤ length r)
    sizes = sealed-done (length text) (length r) is_done

    -- the record's length, and that of the buffer
    length_is : s.length ≡ sealed_length (length text)
    unfolding report_of
    length_is = ap (λ (x : Sealed). x.length) p.result ∙ rw is_done

    -- the buffer keeps its length
    length_buffer : length r' ≡ length r
    unfolding sealedOutput
    length_buffer = ap length p.output ∙ rw is_done (length-put 0 (sealed_record keys seq type version iv text) r)

    -- what was sealed lies in the buffer
    pub sealed-within : s.length ≤ length r'
    sealed-within = omega (arith, length_is, length_buffer, sizes.1)

    -- and the part that is cut out there has its length
    pub length_cut : s.length ≡ length (take s.length r')
    length_cut = sym (length-take-le s.length r' sealed-within)

    -- what is opened: the sealed part of the buffer
    abbrev g : Given
    g = record { keys = keys; seq = seq; type = type; version = version; r = take s.length r' }

    -- too little room: the opening refuses
    no_room : (o : List ℕ) → length o < body_length (length text) → start_answer (length g.r) (length o) ≡ NoRoom
    no_room o h =
        let c = sealed-passes (length text) (body_length (length text)) sizes.0 (omega arith) in
        rw (← length_cut, length_is) (not_opened (NotOpened.no_room c.least c.whole c.most h))

    -- room: the round trip
    back : Block iv → Bytes text → (o : List ℕ) → body_length (length text) ≤ length o
        → our_opener g o ≡ (record { answer = Done; length = length text; count = total_steps (body_length (length text)) }, laid text (body_length (length text)) o)
    unfolding RoundTrip
    back hiv bytes o h =
        rw (p.result, p.output) (round_trip keys seq type version iv text r o bytes hiv (record { most = sizes.0; fits = sizes.1 }) h)

    -- so what opening promises is what is promised here
    pub sealed-and-opened : Block iv → Bytes text → {o : List ℕ} {report : Opened} {o' : List ℕ}
        → Deprotected keys seq type version (take s.length r') o report o'
        → ThereAndBack keys seq type version iv text r o report r' o'
    unfolding report_for out_for deprotected output_of
    sealed-and-opened hiv bytes {o} {report} {o'} q = by (ltb (length o) (body_length (length text))) refl
      where
        by : (t : Bool) → ltb (length o) (body_length (length text)) ≡ t → ThereAndBack keys seq type version iv text r o report r' o'
        by true e =
            let no = no_room o (ltb-true (length o) (body_length (length text)) e) in
            record {
              result = q.result ∙ rw (no, is_done, e);
              sealed = p.output;
              output = q.output ∙ rw (no, is_done, e);
            }
        by false e =
            let yes = back hiv bytes o (ltb-false (length o) (body_length (length text)) e) in
            record {
              result = q.result ∙ ap (λ (x : Opened × List ℕ). x.0) yes ∙ rw (is_done, e);
              sealed = p.output;
              output = q.output ∙ ap (λ (x : Opened × List ℕ). x.1) yes ∙ rw (is_done, e);
            }
