-- `record::protect_cbc` meets its contract: a refusal leaves the output as found; else the IV, the body behind it, and the
-- body enciphered where it stands. Assumes nothing.
use mathlib.Core.List.{List}
use mathlib.Core.Path.{◌≡◌, ap, ◌∙◌}
use Prim.Native.Nat.{ℕ, ◌-◌, ◌+◌, ◌*◌, ◌/◌, ◌%◌, ◌≤◌}
use native.Mathlib.Omega.{arith}
use borrow.Author.Rules.{rules}
use lib.ListN.{length, length-take, length-drop}
use Rattle.answers.specs.Answers.{Done}
use Rattle.words.specs.Lists.{put}
use Rattle.words.proofs.Lists.{length-put}
use Rattle.sm4.specs.Standard.{encrypt, round_keys_of, cipher_of}
use Rattle.sm4.proofs.Inverse.{encrypt-block}
use Rattle.record.specs.Sealing.{answer_of, report_of, output_of}
use Rattle.record.specs.Standard.{tag_of, body_of, pad_of, sealed_by, sealed_record, sealed_length}
use Rattle.record.proofs.Accepts.{length-body}
use Rattle.record.proofs.Answers.{answer_long, answer_room, answer_done}
use Rattle.record.proofs.Laid.{record_laid}
use Rattle.record.proofs.Records.{length-tag, length-sealed-body}
use Rattle.record.proofs.protect_cbc.Goals as goal

pub returns-then-len-gt-MAX_PLAINTEXT : goal.returns-then-len-gt-MAX_PLAINTEXT
unfolding report_of output_of
returns-then-len-gt-MAX_PLAINTEXT c =
    let a = c.args in
    let e = answer_long (length a.plaintext.now) (length a.out.now) c.if-len-gt-MAX_PLAINTEXT.true in
    record { result = rw e; output = rw e }

pub returns-then-out-total : goal.returns-then-out-total
unfolding report_of output_of
returns-then-out-total c =
    let a = c.args in
    let e = answer_room (length a.plaintext.now) (length a.out.now) (omega arith) (omega arith) in
    record { result = rw e; output = rw e }

-- the text that is sealed, its MAC and the body, and an output with room for the total
module _ (mac_key : List ℕ) (seq type : ℕ) (version text out : List ℕ) (total : ℕ) (is_total : total ≡ sealed_length (length text))
    (room : total ≤ length out) where
  abbrev tag : List ℕ → List ℕ
  tag = tag_of mac_key seq type version

  abbrev body : List ℕ
  body = body_of tag text (pad_of (length text))

  -- the MAC is 32 bytes
  tag-length : (t : List ℕ) → length (tag t) ≡ 32
  tag-length = length-tag mac_key seq type version

  -- the total is that of the IV and the body, which is whole blocks, and there is room for it
  sizes : (total ≡ 16 + length body) × (16 + length body ≤ length out) × (length body % 16 ≡ 0)
  unfolding sealed_length
  sizes =
      let n : length body ≡ 16 * (length text / 16 + 3) = length-sealed-body tag tag-length text in
      let t : total ≡ 16 * (length text / 16 + 4) = is_total in
      (omega arith, omega arith, omega arith)

  -- what stands behind the IV is enough for the body's parts
  behind : length text + 32 + 1 + pad_of (length text) ≤ length out - 16
  behind = omega (arith, sizes.1, length-body tag tag-length text (pad_of (length text)))

-- the output, with the IV laid there, is as long
first-length : (w iv out : List ℕ) → w ≡ put 0 iv out → length w ≡ length out
first-length w iv out e = ap length e ∙ simp length-put

pub slice_bounds-lay_body-start : goal.slice_bounds-lay_body-start
slice_bounds-lay_body-start c =
    let a = c.args in
    let n = sizes a.keys.mac_key a.seq a.content_type a.version a.plaintext.now a.out.now _ c.sealed_length-total.ensures c.if-out-total.false in
    omega (arith, first-length c.copy_at.new.out a.iv a.out.now c.copy_at.ensures.output, n.1)

pub slice_bounds-lay_body-count : goal.slice_bounds-lay_body-count
slice_bounds-lay_body-count c =
    let a = c.args in
    let n = sizes a.keys.mac_key a.seq a.content_type a.version a.plaintext.now a.out.now _ c.sealed_length-total.ensures c.if-out-total.false in
    omega (arith, first-length c.copy_at.new.out a.iv a.out.now c.copy_at.ensures.output, n.1)

pub lay_body-requires : goal.lay_body-requires
lay_body-requires c =
    let a = c.args in
    let room = behind a.keys.mac_key a.seq a.content_type a.version a.plaintext.now a.out.now _ c.sealed_length-total.ensures c.if-out-total.false in
    simp (length-take, length-drop) (omega (arith, first-length c.copy_at.new.out a.iv a.out.now c.copy_at.ensures.output, room))

pub slice_bounds-encipher_cbc-start : goal.slice_bounds-encipher_cbc-start
slice_bounds-encipher_cbc-start c =
    let a = c.args in
    let n = sizes a.keys.mac_key a.seq a.content_type a.version a.plaintext.now a.out.now _ c.sealed_length-total.ensures c.if-out-total.false in
    omega (arith, n.0)

pub slice_bounds-encipher_cbc-count : goal.slice_bounds-encipher_cbc-count
slice_bounds-encipher_cbc-count c =
    let a = c.args in
    let n = sizes a.keys.mac_key a.seq a.content_type a.version a.plaintext.now a.out.now _ c.sealed_length-total.ensures c.if-out-total.false in
    omega (arith, n.0)

pub returns : goal.returns
unfolding report_of output_of body_of tag_of sealed_record sealed_by cipher_of
returns c =
    let a = c.args in
    let text : List ℕ = a.plaintext.now in
    let out : List ℕ = a.out.now in
    let tag = tag_of a.keys.mac_key a.seq a.content_type a.version in
    let body : List ℕ = body_of tag text (pad_of (length text)) in
    let n = sizes a.keys.mac_key a.seq a.content_type a.version text out _ c.sealed_length-total.ensures c.if-out-total.false in
    let done : answer_of (length text) (length out) ≡ Done =
    answer_done (length text) (length out) (omega arith) (omega (arith, c.sealed_length-total.ensures)) in
    let is_tag : c.record_mac-mac.result ≡ tag text = rw (c.record_mac-mac.ensures, c.record_header-covered.ensures) in
    let rks : List ℕ = round_keys_of a.keys.enc_key in
    record {
      result = rw done (ap (λ (n : ℕ). record { answer = Done; length = n }) c.sealed_length-total.ensures);
      output =
          rw done
          (record_laid (encrypt rks) (λ b. (encrypt-block rks b).size) a.iv body out (search rules) n.2 n.1
          c.copy_at.new.out c.lay_body.new.body c.encipher_cbc.new.body
          c.sealed_length-total.result n.0
          c.copy_at.ensures.output
          (rw is_tag at c.lay_body.ensures)
          (rw c.new.ensures at c.encipher_cbc.ensures.output));
    }
