-- One step more of the closed form, for each kind of work. Assumes nothing.
use mathlib.Core.Bool.{Bool, true}
use mathlib.Core.List.{List, ◌++◌}
use mathlib.Core.Path.{◌≡◌, sym, ap, ap₂, ◌∙◌}
use Prim.Native.Nat.{ℕ, suc, ◌+◌, ◌≤◌, ◌<◌}
use native.Mathlib.Numerals.{add-one}
use native.Mathlib.Omega.{arith}
use borrow.Author.Tests.{lt-ltb, le-ltb}
use lib.ListN.{take}
use Rattle.answers.specs.Answers.{Done}
use Rattle.record.specs.Opened.{good_pad, held}
use Rattle.record.specs.Standard.{header}
use Rattle.sizes.specs.Sizes.{blocks, mac_steps, total_steps}
use Rattle.mac_blocks.specs.declared.MacWords.{MacWords}
use Rattle.mac_blocks.specs.Schedule.{final, absorbed, inner_key, inner_block, outer_key, outer_digest}
use Rattle.mac_blocks.proofs.Schedule.{keep_turn}
use Rattle.steps.specs.State.{zero_words, report, ended_with}
use Rattle.steps.specs.Step.{changed, message, hashed, verdict, opening_by, report_by, output_by}
use Rattle.steps.specs.declared.Work.{Work}
use Rattle.opening.specs.Closed.{words_after, kept_after, held_after, mark_after, running, report_after, out_after}
use Rattle.opening.specs.Given.{Given, size, decrypted, covered, answer_in, length_in}
use Rattle.opening.proofs.Fields.{words-none, words-inner, words_pad, words-end, kept-none, kept-inner, kept-past, held_none, held_read, mark-none, mark_read}
use Rattle.opening.proofs.Fits.{Fits}
use Rattle.opening.proofs.Output.{out-body, out-deciphers, out-end, body_is, rest_is, text_is, mac_is}
use Rattle.opening.proofs.Tag.{kept_is_inner-hash, verdict-at-end, cleared-at-end}

-- before step T
pub report_before : (g : Given) (k : ℕ) → k < total_steps (size g) → report_after g k ≡ report (running g k) Done 0 k
unfolding report_after
report_before g k h = rw (lt-ltb k (total_steps (size g)) h)

-- after it
pub report-end : (g : Given) → report_after g (total_steps (size g))
    ≡ report (ended_with (size g) (total_steps (size g)) true (answer_in g)) (answer_in g) (length_in g) (total_steps (size g))
unfolding report_after
report-end g = rw (le-ltb (total_steps (size g)) (total_steps (size g)) (omega arith))

module _ (g : Given) where
  -- a step before the last, by the four fields that it sets
  moves : (k : ℕ) (words kept : List ℕ) (held : ℕ) (mark : Bool) → suc k < total_steps (size g) → words ≡ words_after g (suc k)
      → kept ≡ kept_after g (suc k) → held ≡ held_after g (suc k) → mark ≡ mark_after g (suc k)
      → report (changed (running g k) words kept held mark) Done 0 (k + 1) ≡ report_after g (suc k)
  unfolding changed running
  moves k words kept held mark b e1 e2 e3 e4 = rw (report_before g (suc k) b, e1, e2, e3, e4, add-one k)

-- what a piece of work leads from step k to
abbrev pub Turns : Given → List ℕ → ℕ → Work → Type 0
Turns g o k w =
    (report_by w (running g k) (out_after g o k) ≡ report_after g (suc k))
    × (output_by w (running g k) g.r (out_after g o k) ≡ out_after g o (suc k))

module _ (g : Given) {o : List ℕ} (f : Fits g o) where
  -- m and B, and the MAC key
  abbrev m : ℕ
  m = blocks (size g)

  abbrev B : ℕ
  B = mac_steps (size g)

  abbrev K : List ℕ
  K = g.keys.mac_key

  -- the output stays from step m on
  stays : (k : ℕ) → m ≤ k → suc k < total_steps (size g) → out_after g o k ≡ out_after g o (suc k)
  stays k h b = out-body g f k h (omega arith) ∙ sym (out-body g f (suc k) (omega arith) b)

  -- a block deciphered
  pub turn-deciphers : (k : ℕ) → k < m → Turns g o k (Work.Decipher k)
  unfolding report_by opening_by output_by running total_steps
  turn-deciphers k h = (
    moves g k (words_after g k) (kept_after g k) (held_after g k) (mark_after g k) (omega arith)
        (words-none g k (omega arith) ∙ sym (words-none g (suc k) h))
        (kept-none g k (omega arith) ∙ sym (kept-none g (suc k) (omega arith)))
        (held_none g k (omega arith) ∙ sym (held_none g (suc k) h))
        (mark-none g k (omega arith) ∙ sym (mark-none g (suc k) h)),
    out-deciphers g f k h,
  )

  -- the padding read, and the inner hash's key block
  pub turn-reads : Turns g o m Work.ReadPadding
  unfolding report_by opening_by output_by running total_steps absorbed
  turn-reads =
      let o1 = out_after g o m in
      let e : take (size g) o1 ≡ decrypted g = ap (take (size g)) (out-body g f m (omega arith) (omega arith)) ∙ body_is g f in
      let n : suc m ≡ m + 1 + 0 = omega arith in (
        moves g m (inner_key K) (kept_after g m) (held (take (size g) o1)) (good_pad (take (size g) o1)) (omega arith)
            (sym (ap (words_after g) n ∙ words-inner g 0 (omega arith)))
            (kept-none g m (omega arith) ∙ sym (kept-none g (suc m) (omega arith)))
            (ap held e ∙ sym (held_read g (suc m) (omega arith)))
            (ap good_pad e ∙ sym (mark_read g (suc m) (omega arith))),
        stays m (omega arith) (omega arith),
      )

  -- header and text, from the padding's step on
  message_is : (k : ℕ) → m < k → k < total_steps (size g) → message (running g k) (out_after g o k) ≡ covered g
  unfolding message running covered
  message_is k h b =
      ap₂ (λ (l : ℕ) (x : List ℕ). header g.seq g.type g.version l ++ take l x) (held_read g k h) (out-body g f k (omega arith) b)
      ∙ ap (λ (t : List ℕ). header g.seq g.type g.version (held (decrypted g)) ++ t) (text_is g f)

  -- the words after block j of them, and the kept words
  hashed_is : (j : ℕ) → j < B → hashed (running g (m + 1 + j)) (out_after g o (m + 1 + j)) j
      ≡ record { words = words_after g (suc (m + 1 + j)); kept = kept_after g (suc (m + 1 + j)) }
  unfolding hashed inner_block absorbed running total_steps
  hashed_is j h =
      let k = m + 1 + j in
      let c = covered g in
      let run : ℕ → List ℕ = absorbed (inner_key K) c in
      let n : suc k ≡ m + 1 + suc j = omega arith in
      rw (message_is k (omega arith) (omega arith), words-inner g j (omega arith), kept-inner g j, n, words-inner g (suc j) h, kept-inner g (suc j), ← kept_is_inner-hash g)
      (ap (λ (v : List ℕ). record { words = run (suc j); kept = v }) (keep_turn j (final c) run zero_words))

  -- a block of them, the words kept where it is the final one
  pub turn-hashes : (j : ℕ) → j < B → Turns g o (m + 1 + j) (Work.Inner j)
  unfolding report_by opening_by output_by running total_steps
  turn-hashes j h =
      let k = m + 1 + j in
      let next = hashed (running g k) (out_after g o k) j in (
        moves g k next.words next.kept (held_after g k) (mark_after g k) (omega arith)
            (ap (λ (s : MacWords). s.words) (hashed_is j h))
            (ap (λ (s : MacWords). s.kept) (hashed_is j h))
            (held_read g k (omega arith) ∙ sym (held_read g (suc k) (omega arith)))
            (mark_read g k (omega arith) ∙ sym (mark_read g (suc k) (omega arith))),
        stays k (omega arith) (omega arith),
      )

  -- the outer hash's key block
  pub turn-pads : Turns g o (m + 1 + B) Work.OuterPad
  unfolding report_by opening_by output_by running total_steps
  turn-pads =
      let k = m + 1 + B in
      let n : suc k ≡ m + 2 + B = omega arith in (
        moves g k (outer_key K) (kept_after g k) (held_after g k) (mark_after g k) (omega arith)
            (sym (ap (words_after g) n ∙ words_pad g))
            (kept-past g f k (omega arith) ∙ sym (kept-past g f (suc k) (omega arith)))
            (held_read g k (omega arith) ∙ sym (held_read g (suc k) (omega arith)))
            (mark_read g k (omega arith) ∙ sym (mark_read g (suc k) (omega arith))),
        stays k (omega arith) (omega arith),
      )

  -- the kept digest with its ending
  pub turn-ends : Turns g o (m + 2 + B) Work.OuterHash
  unfolding report_by opening_by output_by running total_steps
  turn-ends =
      let k = m + 2 + B in
      let n : suc k ≡ m + 3 + B = omega arith in (
        moves g k (outer_digest (words_after g k) (kept_after g k)) (kept_after g k) (held_after g k) (mark_after g k) (omega arith)
            (ap₂ outer_digest (words_pad g) (kept-past g f k (omega arith)) ∙ sym (ap (words_after g) n ∙ words-end g))
            (kept-past g f k (omega arith) ∙ sym (kept-past g f (suc k) (omega arith)))
            (held_read g k (omega arith) ∙ sym (held_read g (suc k) (omega arith)))
            (mark_read g k (omega arith) ∙ sym (mark_read g (suc k) (omega arith))),
        stays k (omega arith) (omega arith),
      )

  -- the verdict of the last step
  pub verdict_is : verdict (running g (m + 3 + B)) (out_after g o (m + 3 + B)) ≡ record { answer = answer_in g; length = length_in g }
  unfolding verdict running total_steps
  verdict_is =
      let k = m + 3 + B in
      rw (out-body g f k (omega arith) (omega arith), held_read g k (omega arith), mark_read g k (omega arith), words-end g, mac_is g f)
      (verdict-at-end g f)

  -- the answer, and what is no text cleared
  pub turn-answers : Turns g o (m + 3 + B) Work.Answering
  unfolding report_by opening_by output_by running total_steps
  turn-answers =
      let k = m + 3 + B in
      let n : suc k ≡ total_steps (size g) = omega arith in (
        rw (verdict_is, n, report-end g),
        rw (verdict_is, n, out-end g o, out-body g f k (omega arith) (omega arith), body_is g f, rest_is g f, cleared-at-end g f),
      )
