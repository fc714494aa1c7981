-- The closed form of an opening that passes the checks: every field of the state, the report and the output after each number k of
-- steps from 0 to T, from the scope's list of steps and the standards. Assumes nothing.
use Rattle.std.specs.Prelude.{Bool, true, false, cond, List, ◌++◌, ℕ, zero, suc, ◌+◌, ◌-◌, ◌*◌, min, leb, ltb, length, take, drop}
use Rattle.answers.specs.Answers.{Done}
use Rattle.sm3.specs.Standard.{ending, iteration, bytes_of}
use Rattle.record.specs.Opened.{good_pad, held}
use Rattle.sizes.specs.Sizes.{blocks, mac_steps, total_steps}
use Rattle.mac_blocks.specs.Schedule.{final, absorbed, inner_key, outer_key, outer_digest}
use Rattle.steps.specs.declared.OpeningCbc.{OpeningCbc}
use Rattle.steps.specs.declared.Stepped.{Stepped}
use Rattle.steps.specs.State.{zero_words, report, ended_with, started}
use Rattle.steps.specs.Step.{stepped, output_after}
use Rattle.opening.specs.Given.{Given, size, decrypted, covered, answer_in, length_in}
use Rattle.opening.specs.Deprotected.{body_after}

-- the words of the MAC's inner hash: GB/T 32905's iteration over what is covered, with its ending, behind the key block
unfoldable pub inner_hash : Given → List ℕ
inner_hash g =
    let m = covered g in
    iteration (inner_key g.keys.mac_key) (m ++ ending (64 + length m) (64 + length m))

-- the value that the last step compares with the MAC in the body: the outer hash of that, in bytes
abbrev pub compared : Given → List ℕ
compared g = bytes_of (outer_digest (outer_key g.keys.mac_key) (inner_hash g))

-- the chaining words: none before the padding is read, then those of the inner hash's blocks so far, then the outer hash's two
unfoldable pub words_after : Given → ℕ → List ℕ
words_after g k =
    let m = blocks (size g) in
    let b = mac_steps (size g) in
    let key = g.keys.mac_key in
    cond (leb k m) zero_words
    (cond (leb k (m + 1 + b)) (absorbed (inner_key key) (covered g) (k - (m + 1)))
    (cond (leb k (m + 2 + b)) (outer_key key) (outer_digest (outer_key key) (inner_hash g))))

-- the kept words: the inner hash, once its final block is past
unfoldable pub kept_after : Given → ℕ → List ℕ
kept_after g k = cond (leb k (blocks (size g) + 1 + final (covered g))) zero_words (inner_hash g)

-- the length held and the padding mark, once the padding is read
unfoldable pub held_after : Given → ℕ → ℕ
held_after g k = cond (leb k (blocks (size g))) 0 (held (decrypted g))

unfoldable pub mark_after : Given → ℕ → Bool
mark_after g k = cond (leb k (blocks (size g))) false (good_pad (decrypted g))

-- the state after k steps, not yet ended
unfoldable pub running : Given → ℕ → OpeningCbc
running g k =
    record {
      words = words_after g k;
      kept = kept_after g k;
      mac_key = g.keys.mac_key;
      enc_key = g.keys.enc_key;
      seq = g.seq;
      content_type = g.type;
      version = g.version;
      n = size g;
      total = total_steps (size g);
      done = k;
      held = held_after g k;
      pad_ok = mark_after g k;
      ended = false;
      answer = 0;
    }

-- the state with its report after k steps, for k from 0 to T
unfoldable pub report_after : Given → ℕ → Stepped
report_after g k =
    cond (ltb k (total_steps (size g)))
    (report (running g k) Done 0 k)
    (report (ended_with (size g) (total_steps (size g)) true (answer_in g)) (answer_in g) (length_in g) (total_steps (size g)))

-- how many bytes have been deciphered after k steps
unfoldable pub written : Given → ℕ → ℕ
written g k = 16 * min k (blocks (size g))

-- the output after k steps, which held o
unfoldable pub out_after : Given → List ℕ → ℕ → List ℕ
out_after g o k =
    cond (ltb k (total_steps (size g)))
    (take (written g k) (decrypted g) ++ drop (written g k) o)
    (body_after g ++ drop (size g) o)

-- start and then k steps, as an iterate of the definitions: state with report, and output
unfoldable pub after : Given → List ℕ → ℕ → Stepped × List ℕ
after g o zero = (started g.keys g.seq g.type g.version (length g.r) (length o), o)
after g o (suc k) = (stepped (after g o k).0.opening g.r (after g o k).1, output_after (after g o k).0.opening g.r (after g o k).1)
