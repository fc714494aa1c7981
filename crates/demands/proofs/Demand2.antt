-- Demand 2 for records: the stated record, the refusals, the round trip and exact acceptance hold of our sealer and our opener. A body
-- is accepted exactly if it is a text, its MAC and padding, and a sealed record deciphers to one. Assumes nothing.
use mathlib.Core.Bool.{Bool, true, false, cond, false≢true}
use mathlib.Core.List.{List, append_assoc}
use mathlib.Core.Path.{◌≡◌, refl, sym, ap, ◌∙◌}
use Prim.Native.Nat.{ℕ, ◌-◌, ◌≤◌}
use native.Mathlib.Omega.{arith}
use borrow.Author.Tests.{ne_eqb}
use lib.ListN.{length, take, drop, replicate, length-drop}
use lib.Seq.{take_at, length-take-le}
use Rattle.answers.specs.Answers.{Done, BadRecord}
use Rattle.words.specs.Bytes.{Bytes}
use Rattle.words.specs.Lists.{put}
use Rattle.words.proofs.Bytes.{bytes_take, bytes_drop}
use Rattle.words.proofs.Puts.{part-put}
use Rattle.sm4.specs.Block.{Block}
use Rattle.sm4.specs.Standard.{encrypt, decrypt, round_keys_of}
use Rattle.cbc.specs.Cbc.{cbc_enc}
use Rattle.cbc.proofs.Cbc.{bytes-cbc_dec}
use Rattle.cbc.proofs.Sm4.{deciphers}
use Rattle.record.specs.declared.RecordKeysCbc.{RecordKeysCbc}
use Rattle.record.specs.Limits.{max_plaintext, iv_len}
use Rattle.record.specs.Opened.{accepts}
use Rattle.record.specs.Sealing.{report_of, output_of as sealedOutput}
use Rattle.record.specs.Standard.{body_of, pad_of, sealed_by, sealed_record, sealed_length}
use Rattle.record.proofs.Accepts.{accepted_is_body, accepts-body, held-body, text-body, body-unique}
use Rattle.record.proofs.Answers.{answer_done}
use Rattle.record.proofs.Records.{length-tag, length-sealed_record, opened-sealed_record}
use Rattle.sizes.specs.Sizes.{total_steps}
use Rattle.opening.specs.declared.Opened.{Opened}
use Rattle.opening.specs.Deprotected.{body_after, deprotected, output_of}
use Rattle.opening.specs.Given.{Given, size, decrypted, tag_in, accepted, answer_in, length_in}
use Rattle.demands.specs.Checks.{Openable}
use Rattle.demands.specs.Openers.{our_sealer, our_opener, laid, blank, StatedRecord, SealRefusals, RoundTrip, IsBody, Exact, ExactAcceptance, OpenRefusals, Demand2, CallsAlike}
use Rattle.demands.proofs.Checks.{passes-checks, not-sealed, not-sealed_answer}
use Rattle.demands.proofs.OneCall.{refused}

-- ---- sealing

-- what is written is the record, and the report says so
pub stated_record : StatedRecord our_sealer
unfolding StatedRecord report_of sealedOutput
stated_record keys seq type version iv text out h = rw (answer_done (length text) (length out) h.most h.fits)

-- a text that is not sealed is answered by its number, and nothing is written
pub seal_refusals : SealRefusals our_sealer
unfolding SealRefusals report_of sealedOutput
seal_refusals keys seq type version iv text out answer n = rw (not-sealed n, ne_eqb answer Done (not-sealed_answer n))

-- ---- opening a body

-- the MAC of a record is 32 bytes
length-tag_in : (g : Given) (text : List ℕ) → length (tag_in g text) ≡ 32
length-tag_in g = length-tag g.keys.mac_key g.seq g.type g.version

module _ (g : Given) (o : List ℕ) (checks : Openable (length g.r) (length o)) where
  -- a decryption that is a text, its MAC and padding: that text is handed out
  pub opens_body : (text : List ℕ) (p : ℕ) → decrypted g ≡ body_of (tag_in g) text p
      → our_opener g o ≡ (record { answer = Done; length = length text; count = total_steps (size g) }, laid text (size g) o)
  unfolding deprotected output_of body_after accepted answer_in length_in
  opens_body text p e =
      rw (
        passes-checks checks,
        e,
        accepts-body (tag_in g) (length-tag_in g) text p,
        held-body (tag_in g) (length-tag_in g) text p,
        text-body (tag_in g) (length-tag_in g) text p,
      )
      (ap
      (λ (l : List ℕ). (record { answer = Done; length = length text; count = total_steps (size g) }, l))
      (append_assoc text (replicate (size g - length text) 0) (drop (size g) o)))

-- ---- the round trip

-- a text up to the most is sealed to a record that passes the checks where there is room for its body
pub sealed-passes : (L room : ℕ) → L ≤ max_plaintext → sealed_length L - iv_len ≤ room → Openable (sealed_length L) room
unfolding sealed_length
sealed-passes L room short enough =
    record { least = omega arith; whole = omega arith; most = omega arith; fits = enough }

module _ (keys : RecordKeysCbc) (seq type : ℕ) (version iv text : List ℕ) where
  -- what an opening is given that has the sealed record
  abbrev pub sealed_given : Given
  sealed_given =
      record { keys = keys; seq = seq; type = type; version = version; r = sealed_record keys seq type version iv text }

  -- its decryption is the text, its MAC and the shortest padding
  pub decrypted-sealed : Block iv → Bytes text → decrypted sealed_given ≡ body_of (tag_in sealed_given) text (pad_of (length text))
  unfolding decrypted sealed_record sealed_by
  decrypted-sealed hiv bytes =
      let body = body_of (tag_in sealed_given) text (pad_of (length text)) in
      rw (take_at iv (cbc_enc (encrypt (round_keys_of keys.enc_key)) iv body) 16 hiv.size)
      (opened-sealed_record keys seq type version iv text hiv bytes)

  module _ (hiv : Block iv) (short : length text ≤ max_plaintext) (o : List ℕ) (enough : sealed_length (length text) - iv_len ≤ length o) where
    -- it passes the checks
    pub sealed-checks : Openable (length sealed_given.r) (length o)
    sealed-checks =
        rw (length-sealed_record keys seq type version iv text hiv.size) (sealed-passes (length text) (length o) short enough)

    -- and opens to the text
    pub opens_sealed : Bytes text →
        let n = sealed_length (length text) - iv_len in
        our_opener sealed_given o ≡ (record { answer = Done; length = length text; count = total_steps n }, laid text n o)
    unfolding size
    opens_sealed bytes =
        opens_body sealed_given o sealed-checks text (pad_of (length text)) (decrypted-sealed hiv bytes)
        ∙ rw (length-sealed_record keys seq type version iv text hiv.size)

-- a sealed record, cut out of the buffer that it was sealed into, opens to the text
pub round_trip : RoundTrip our_sealer our_opener
unfolding RoundTrip report_of sealedOutput
round_trip keys seq type version iv text out o bytes hiv h enough =
    let whole = sealed_record keys seq type version iv text in
    let n : length whole ≡ sealed_length (length text) = length-sealed_record keys seq type version iv text hiv.size in
    let cut : take (sealed_length (length text)) (put 0 whole out) ≡ whole =
    ap (λ (k : ℕ). take k (put 0 whole out)) (sym n) ∙ part-put 0 whole out (omega arith) in
    rw (answer_done (length text) (length out) h.most h.fits, cut)
    (opens_sealed keys seq type version iv text hiv h.most o enough bytes)

-- ---- exact acceptance

-- a record of bytes that passes the checks deciphers to bytes
bytes-decrypted : (g : Given) (room : ℕ) → Bytes g.r → Openable (length g.r) room → Bytes (decrypted g)
unfolding decrypted
bytes-decrypted g room bytes checks =
    let rks = round_keys_of g.keys.enc_key in
    bytes-cbc_dec (encrypt rks) (decrypt rks) (deciphers rks) (take 16 g.r) (drop 16 g.r)
    (record { size = length-take-le 16 g.r (omega arith); bytes = bytes_take 16 g.r bytes })
    (bytes_drop 16 g.r bytes)
    (rw (length-drop 16 g.r) checks.whole)

module _ (g : Given) (o : List ℕ) (checks : Openable (length g.r) (length o)) where
  -- what is not accepted is answered 6, and its place cleared
  pub refuses : accepted g ≡ false
      → our_opener g o ≡ (record { answer = BadRecord; length = 0; count = total_steps (size g) }, blank (size g) o)
  unfolding deprotected output_of body_after answer_in length_in
  refuses e = rw (passes-checks checks, e)

  module _ (bytes : Bytes g.r) where
    -- a record is refused, or its decryption is a body
    pub data Verdict : Type 0 where
      no_body : accepted g ≡ false → ((text : List ℕ) (p : ℕ) → IsBody g text p → ⊥) → Verdict
      a_body : (text : List ℕ) (p : ℕ) → IsBody g text p → Verdict

    -- by the test of the definition
    pub verdict : Verdict
    unfolding accepted
    verdict = by (accepts (tag_in g) (decrypted g)) refl
      where
        by : (t : Bool) → accepts (tag_in g) (decrypted g) ≡ t → Verdict
        by true e =
            let a = accepted_is_body (tag_in g) (decrypted g) (bytes-decrypted g (length o) bytes checks) e in
            Verdict.a_body a.0 a.1 (record { padding = a.2; body = a.3 })
        by false e =
            Verdict.no_body e
            (λ text p b. false≢true (sym e ∙ ap (accepts (tag_in g)) b.body ∙ accepts-body (tag_in g) (length-tag_in g) text p))

-- answer 6 exactly where the decryption is no body, and then nothing is left of it; a body is accepted, and its text and padding are
-- the only ones
pub exact_acceptance : ExactAcceptance our_opener
unfolding ExactAcceptance
exact_acceptance g o bytes checks = by (verdict g o checks bytes)
  where
    same : (text text' : List ℕ) (p p' : ℕ) → IsBody g text p → IsBody g text' p' → (text ≡ text') × (p ≡ p')
    same text text' p p' b b' = body-unique (tag_in g) (length-tag_in g) text text' p p' (sym b.body ∙ b'.body)

    handed : (text : List ℕ) (p : ℕ) → IsBody g text p
        → our_opener g o ≡ (record { answer = Done; length = length text; count = total_steps (size g) }, laid text (size g) o)
    handed text p b = opens_body g o checks text p b.body

    by : Verdict g o checks bytes → Exact g o (our_opener g o)
    by (Verdict.no_body e none) =
        let six = refuses g o checks e in
        let answer = ap (λ (y : Opened × List ℕ). y.0.answer) six in
        record {
          refused = (λ _. none, λ _. answer);
          cleared = λ _. six;
          accepted = (λ done. absurd (omega (arith, done, answer)), λ body. absurd (none body.0 body.1 body.2));
          handed_out = handed;
          unique = same;
        }
    by (Verdict.a_body text p b) =
        let answer = ap (λ (y : Opened × List ℕ). y.0.answer) (handed text p b) in
        record {
          refused = (λ six. absurd (omega (arith, six, answer)), λ none. absurd (none text p b));
          cleared = λ six. absurd (omega (arith, six, answer));
          accepted = (λ _. (text, p, b), λ _. answer);
          handed_out = handed;
          unique = same;
        }

-- what does not pass the checks is answered by its number, and nothing is written
pub open_refusals : OpenRefusals our_opener
unfolding OpenRefusals
open_refusals = refused

-- DEMAND 2 for records
pub demand_2 : Demand2 our_sealer our_opener
demand_2 =
    record {
      stated_record = stated_record;
      seal_refusals = seal_refusals;
      round_trip = round_trip;
      exact_acceptance = exact_acceptance;
      open_refusals = open_refusals;
    }

-- ---- demand 3 for one call

-- the count of every record that passes the checks is T
count_is_T : (g : Given) (o : List ℕ) → Openable (length g.r) (length o) → (our_opener g o).0.count ≡ total_steps (size g)
unfolding deprotected
count_is_T g o checks = rw (passes-checks checks)

-- a record that is not answered 0 is not accepted
pub not_done : (g : Given) (o : List ℕ) → Openable (length g.r) (length o) → ((our_opener g o).0.answer ≡ Done → ⊥) → accepted g ≡ false
unfolding deprotected answer_in
not_done g o checks h = by (accepted g) (rw (passes-checks checks) at h)
  where
    by : (t : Bool) → (cond t Done BadRecord ≡ Done → ⊥) → t ≡ false
    by true h = absurd (h refl)
    by false h = refl

-- so two refusals have the sizes in common
pub calls_alike : CallsAlike our_opener
unfolding size
calls_alike =
    record {
      count = count_is_T;
      alike = λ g h o q same c d f u.
          let n : size g ≡ size h = ap (λ (l : ℕ). l - iv_len) same in
          let y = refuses g o c (not_done g o c f) in
          let z = refuses h q d (not_done h q d u) in (
            ap (λ (x : Opened × List ℕ). x.0) y ∙ (rw n) ∙ sym (ap (λ (x : Opened × List ℕ). x.0) z),
            ap (λ (x : Opened × List ℕ). x.1) y,
            ap (λ (x : Opened × List ℕ). x.1) z,
          );
    }
