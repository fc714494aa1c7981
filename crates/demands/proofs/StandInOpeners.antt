-- The stand-ins for a sealer and an opener do not meet demand 2: a text that was sealed must come back, and two texts differ.
-- Assumes nothing.
use mathlib.Core.List.{List, [], ◌++◌}
use mathlib.Core.Path.{◌≡◌, refl, sym, ap, ◌∙◌}
use Prim.Native.Nat.{ℕ, ◌+◌, ◌*◌, ◌/◌, ◌≤◌}
use native.Mathlib.Omega.{arith}
use borrow.Author.Tests.{lt-ltb}
use lib.Dec.{lit<, lit≤}
use lib.ListN.{length, take, drop, get_or, replicate, get_or-append}
use Rattle.answers.specs.Answers.{Done, NoRoom, BadRecord}
use Rattle.words.specs.Bytes.{Bytes}
use Rattle.words.specs.Lists.{put}
use Rattle.words.proofs.Bytes.{bytes-append}
use Rattle.words.proofs.Lists.{put-fits}
use Rattle.words.proofs.Puts.{part-put}
use Rattle.sm4.specs.Block.{Block}
use Rattle.sm4.specs.Standard.{encrypt, decrypt, round_keys_of}
use Rattle.cbc.specs.Cbc.{cbc_enc}
use Rattle.cbc.proofs.Cbc.{bytes-cbc_enc}
use Rattle.cbc.proofs.Sm4.{enciphers}
use Rattle.record.specs.declared.RecordKeysCbc.{RecordKeysCbc}
use Rattle.record.specs.Sealing.{Sealed}
use Rattle.record.specs.KeyBlock.{zero_keys}
use Rattle.record.specs.Opened.{last_byte}
use Rattle.record.specs.Standard.{tag_of, body_of, pad_of, sealed_by, sealed_record, sealed_length}
use Rattle.record.proofs.Records.{length-tag, bytes-tag, bytes-body, whole_blocks}
use Rattle.opening.specs.declared.Opened.{Opened}
use Rattle.sizes.specs.Sizes.{total_steps}
use Rattle.opening.specs.Deprotected.{deprotected}
use Rattle.opening.specs.Given.{Given, size, decrypted}
use Rattle.demands.specs.Checks.{NotSealed, Openable, NotOpened}
use Rattle.demands.specs.Openers.{Opener, our_sealer, blank, StatedRecord, SealRefusals, RoundTrip, ExactAcceptance, OpenRefusals, CallsAlike}
use Rattle.demands.specs.StandIns.{refuses_all, fixed_text, leaks, leaks_behind, tells_length, room_first, seals_nothing, seals_any_length, copies, copies_back}
use Rattle.demands.proofs.BadRecords.{zeros, length-zeros, bytes-zeros, block-zeros, holding, decrypted-holding, bytes-holding, length-holding, checks-holding, bad_padding, length-bad, bytes-bad, last-bad, bad-refused, other, bad_mac, length-mac, bytes-mac, mac-refused}
use Rattle.demands.proofs.Figures.{last-ending}
use Rattle.demands.proofs.Demand2.{sealed_given, decrypted-sealed, sealed-checks, refuses, exact_acceptance}

-- a sealed record is bytes
bytes-sealed : (keys : RecordKeysCbc) (seq type : ℕ) (version iv text : List ℕ) → Block iv → Bytes text
    → Bytes (sealed_record keys seq type version iv text)
unfolding sealed_record sealed_by
bytes-sealed keys seq type version iv text hiv bytes =
    let rks = round_keys_of keys.enc_key in
    let tag = tag_of keys.mac_key seq type version in
    let size = length-tag keys.mac_key seq type version in
    let body = body_of tag text (pad_of (length text)) in
    let all = bytes-body tag size text bytes (bytes-tag keys.mac_key seq type version text) in
    bytes-append iv (cbc_enc (encrypt rks) iv body) hiv.bytes
    (bytes-cbc_enc (encrypt rks) (decrypt rks) (enciphers rks) iv body hiv all (whole_blocks tag size text))

-- ---- an opener must hand out what was sealed

-- there is a record that it opens with answer 0 and a text of n bytes
record HandsOut (opens : Opener) (n : ℕ) : Type 0 where
  given : Given
  out : List ℕ
  done : (opens given out).0.answer ≡ Done
  long : (opens given out).0.length ≡ n

module _ (opens : Opener) (n : ℕ) (few : n ≤ 15) where
  -- a text of n zeros; version, IV and output are zeros too, as are keys, number and type
  abbrev text : List ℕ
  text = zeros n

  -- 64 bytes are room for so short a text, sealed or opened
  small : sealed_length (length text) ≤ length (zeros 64)
  unfolding sealed_length
  small = omega (arith, length-zeros n, length-zeros 64)

  -- by exact acceptance
  exact_hands_out : ExactAcceptance opens → HandsOut opens n
  unfolding ExactAcceptance pad_of
  exact_hands_out exact =
      let g = sealed_given zero_keys 0 0 (zeros 2) (zeros 16) text in
      let checks = sealed-checks zero_keys 0 0 (zeros 2) (zeros 16) text block-zeros (omega (arith, length-zeros n)) (zeros 64) (omega (arith, small)) in
      let e = (exact g (zeros 64) (bytes-sealed zero_keys 0 0 (zeros 2) (zeros 16) text block-zeros (bytes-zeros n)) checks).handed_out text (pad_of (length text))
      (record { padding = omega arith; body = decrypted-sealed zero_keys 0 0 (zeros 2) (zeros 16) text block-zeros (bytes-zeros n) }) in
      record {
        given = g;
        out = zeros 64;
        done = ap (λ (x : Opened × List ℕ). x.0.answer) e;
        long = ap (λ (x : Opened × List ℕ). x.0.length) e ∙ length-zeros n;
      }

  -- by the round trip
  trip_hands_out : RoundTrip our_sealer opens → HandsOut opens n
  unfolding RoundTrip
  trip_hands_out trip =
      let e = trip zero_keys 0 0 (zeros 2) (zeros 16) text (zeros 64) (zeros 64) (bytes-zeros n) block-zeros (record { most = omega (arith, length-zeros n); fits = small })
      (omega (arith, small)) in
      record {
        given = _;
        out = zeros 64;
        done = ap (λ (x : Opened × List ℕ). x.0.answer) e;
        long = ap (λ (x : Opened × List ℕ). x.0.length) e ∙ length-zeros n;
      }

-- ---- refused and fixed

-- who refuses all hands out nothing
nothing : HandsOut refuses_all 0 → ⊥
nothing h = omega (arith, h.done)

-- an opener that refuses every record does not accept exactly
pub refuses_all-exact_fails : ExactAcceptance refuses_all → ⊥
refuses_all-exact_fails exact = nothing (exact_hands_out refuses_all 0 (lit≤ tt) exact)

-- nor does a text come back from it
pub refuses_all_trip_fails : RoundTrip our_sealer refuses_all → ⊥
refuses_all_trip_fails trip = nothing (trip_hands_out refuses_all 0 (lit≤ tt) trip)

-- one text is not two
fixed : (t : List ℕ) → HandsOut (fixed_text t) 0 → HandsOut (fixed_text t) 1 → ⊥
fixed t h k = omega (arith, h.long, k.long)

-- an opener that gives one fixed text, whichever it is, does not accept exactly
pub fixed_text-exact_fails : (t : List ℕ) → ExactAcceptance (fixed_text t) → ⊥
fixed_text-exact_fails t exact = fixed t (exact_hands_out (fixed_text t) 0 (lit≤ tt) exact) (exact_hands_out (fixed_text t) 1 (lit≤ tt) exact)

-- nor does every text come back from it
pub fixed_text_trip_fails : (t : List ℕ) → RoundTrip our_sealer (fixed_text t) → ⊥
fixed_text_trip_fails t trip = fixed t (trip_hands_out (fixed_text t) 0 (lit≤ tt) trip) (trip_hands_out (fixed_text t) 1 (lit≤ tt) trip)

-- ---- what a refusal shows

-- a record with bad padding, opened into 48 zeros
abbrev bad : Given
bad = holding bad_padding

-- passes the checks
bad-checks : Openable (length bad.r) (length (zeros 48))
bad-checks = checks-holding bad_padding bytes-bad length-bad (zeros 48) (omega (arith, length-zeros 48))

-- and is answered 6 by ours
six : (deprotected bad (length (zeros 48))).answer ≡ BadRecord
six = ap (λ (y : Opened × List ℕ). y.0.answer) (refuses bad (zeros 48) bad-checks bad-refused)

-- where an opener that accepts exactly shows nothing of it
shows_nothing : (opens : Opener) → ExactAcceptance opens → (opens bad (zeros 48)).0.answer ≡ BadRecord
    → opens bad (zeros 48) ≡ (record { answer = BadRecord; length = 0; count = total_steps (size bad) }, blank (size bad) (zeros 48))
unfolding ExactAcceptance
shows_nothing opens exact e = (exact bad (zeros 48) (bytes-holding bad_padding bytes-bad length-bad) bad-checks).cleared e

-- the body has 48 bytes
size-bad : size bad ≡ 48
unfolding size
size-bad = omega (arith, length-holding bad_padding bytes-bad length-bad)

-- the last byte of the body's place would be zero, and it is not
leaks_shows : (leaks bad (zeros 48)).1 ≡ blank (size bad) (zeros 48) → ⊥
unfolding last_byte
leaks_shows e =
    let d = decrypted-holding bad_padding bytes-bad length-bad in
    let left : (leaks bad (zeros 48)).1 ≡ bad_padding ++ drop (size bad) (zeros 48) = rw (six, d) in
    let byte : get_or (bad_padding ++ drop (size bad) (zeros 48)) 47 0 ≡ 0x10 =
    get_or-append bad_padding (drop (size bad) (zeros 48)) 0 47 (omega (arith, length-bad)) ∙ (rw length-bad at last-bad) in
    let zero : get_or (blank (size bad) (zeros 48)) 47 0 ≡ 0 = rw size-bad in
    omega (arith, ap (λ (l : List ℕ). get_or l 47 0) e, ap (λ (l : List ℕ). get_or l 47 0) left, byte, zero)

-- LEAKS. So it does not accept exactly, nor do its refusals look alike.
pub leaks_fails : ExactAcceptance leaks → ⊥
leaks_fails exact = leaks_shows (ap (λ (y : Opened × List ℕ). y.1) (shows_nothing leaks exact six))

pub leaks-alike_fails : CallsAlike leaks → ⊥
leaks-alike_fails alike =
    let not_done : (deprotected bad (length (zeros 48))).answer ≡ Done → ⊥ = λ e. omega (arith, e, six) in
    leaks_shows (alike.alike bad bad (zeros 48) (zeros 48) refl bad-checks bad-checks not_done not_done).1

-- TELLS THE LENGTH. It would report 0.
pub tells_length_fails : ExactAcceptance tells_length → ⊥
tells_length_fails exact =
    let e = ap (λ (y : Opened × List ℕ). y.0.length) (shows_nothing tells_length exact six) in
    let told : (tells_length bad (zeros 48)).0.length ≡ last_byte (decrypted bad) = rw six in
    omega (arith, told, e, ap last_byte (decrypted-holding bad_padding bytes-bad length-bad), last-bad)

-- nor do its refusals look alike: the one body ends in 0x10, the other in 0
pub tells_length-alike_fails : CallsAlike tells_length → ⊥
unfolding bad_mac
tells_length-alike_fails alike =
    let g = holding bad_mac in
    let o = zeros 48 in
    let c = checks-holding bad_mac bytes-mac length-mac o (omega (arith, length-zeros 48)) in
    let six' : (deprotected g (length o)).answer ≡ BadRecord =
    ap (λ (y : Opened × List ℕ). y.0.answer) (refuses g o c mac-refused) in
    let same = length-holding bad_padding bytes-bad length-bad ∙ sym (length-holding bad_mac bytes-mac length-mac) in
    let e = alike.alike bad g o o same bad-checks c (λ e. omega (arith, e, six)) (λ e. omega (arith, e, six')) in
    let told : (tells_length bad o).0.length ≡ last_byte (decrypted bad) = rw six in
    let told' : (tells_length g o).0.length ≡ last_byte (decrypted g) = rw six' in
    omega (
      arith,
      ap (λ (x : Opened). x.length) e.0,
      told,
      told',
      ap last_byte (decrypted-holding bad_padding bytes-bad length-bad),
      ap last_byte (decrypted-holding bad_mac bytes-mac length-mac),
      last-bad,
      last-ending (zeros 15 ++ other) 0 0,
    )

-- LEAKS BEHIND. What stands behind the body's place would be as found, in an output of 96 bytes.
pub leaks_behind_fails : CallsAlike leaks_behind → ⊥
unfolding last_byte
leaks_behind_fails alike =
    let o : List ℕ = replicate 96 0 in
    let c = checks-holding bad_padding bytes-bad length-bad o (lit≤ tt) in
    let done : (deprotected bad 96).answer ≡ BadRecord = ap (λ (y : Opened × List ℕ). y.0.answer) (refuses bad o c bad-refused) in
    let not_done : (deprotected bad 96).answer ≡ Done → ⊥ = λ e. omega (arith, e, done) in
    let e = (alike.alike bad bad o o refl c c not_done not_done).1 in
    let behind : (leaks_behind bad o).1 ≡ replicate 48 0 ++ put 0 bad_padding (replicate 48 0) =
    rw (done, size-bad, decrypted-holding bad_padding bytes-bad length-bad) in
    let laid : put 0 bad_padding (replicate 48 0) ≡ bad_padding ++ drop (0 + length bad_padding) (replicate 48 0) =
    put-fits 0 bad_padding (replicate 48 0) (omega (arith, length-bad)) in
    let byte : get_or (bad_padding ++ drop (0 + length bad_padding) (replicate 48 0)) 47 0 ≡ 0x10 =
    get_or-append bad_padding (drop (0 + length bad_padding) (replicate 48 0)) 0 47 (omega (arith, length-bad))
    ∙ (rw length-bad at last-bad) in
    let zero : get_or (blank (size bad) o) 95 0 ≡ 0 = rw size-bad in
    omega (
      arith,
      ap (λ (l : List ℕ). get_or l 95 0) e,
      ap (λ (l : List ℕ). get_or l 95 0) behind,
      ap (λ (l : List ℕ). get_or l 47 0) laid,
      byte,
      zero,
    )

-- ---- refusals before all work

-- ROOM FIRST. A record of 63 bytes and no room: 3 is asked for.
pub room_first_fails : OpenRefusals room_first → ⊥
unfolding OpenRefusals size
room_first_fails refusals =
    let g : Given = record { keys = zero_keys; seq = 0; type = 0; version = replicate 2 0; r = replicate 63 0 } in
    let e = ap (λ (y : Opened × List ℕ). y.0.answer) (refusals g [] _ (NotOpened.short (lit< tt))) in
    omega (arith, e)

-- ---- sealers

-- a sealer that writes nothing leaves a zero where the record has the first byte of its IV, here a one
pub seals_nothing_stated_fails : StatedRecord seals_nothing → ⊥
unfolding StatedRecord put sealed_record sealed_by sealed_length
seals_nothing_stated_fails stated =
    let e = stated zero_keys 0 0 (replicate 2 0) (replicate 16 1) [] (replicate 64 0) (record { most = lit≤ tt; fits = lit≤ tt }) in
    let byte : ◌≡◌ {A = ℕ} 0 1 = ap (λ (x : Sealed × List ℕ). get_or x.1 0 0) e in
    omega arith

-- ANY LENGTH. A text of 16,385 bytes and no room: 1 is asked for.
pub seals_any_length_fails : SealRefusals seals_any_length → ⊥
unfolding SealRefusals sealed_length
seals_any_length_fails refusals =
    let text = zeros 16385 in
    let e = refusals zero_keys 0 0 (zeros 2) (zeros 16) text [] _ (NotSealed.too_long (omega (arith, length-zeros 16385))) in
    let two : (seals_any_length zero_keys 0 0 (zeros 2) (zeros 16) text []).0.answer ≡ NoRoom =
    rw (lt-ltb 0 (16 * (length text / 16 + 4)) (omega arith)) in
    omega (arith, two, ap (λ (y : Sealed × List ℕ). y.0.answer) e)

-- COPIES. Every text comes back from the pair, so that it is the stated record and exact acceptance that rule it out.
pub copies-round_trip : RoundTrip copies copies_back
unfolding RoundTrip sealed_length
copies-round_trip keys seq type version iv text out o bytes hiv h enough =
    let cut : take (length text) (put 0 text out) ≡ text = part-put 0 text out (omega arith) in
    rw cut

pub copies_fails : StatedRecord copies → ⊥
unfolding StatedRecord sealed_length
copies_fails stated =
    let e = stated zero_keys 0 0 (zeros 2) (zeros 16) [] (replicate 64 0) (record { most = lit≤ tt; fits = lit≤ tt }) in
    omega (arith, ap (λ (y : Sealed × List ℕ). y.0.length) e)

pub copies_back_fails : ExactAcceptance copies_back → ⊥
unfolding ExactAcceptance
copies_back_fails exact =
    let bytes = bytes-holding bad_padding bytes-bad length-bad in
    let e = (exact bad (zeros 48) bytes bad-checks).refused.1 ((exact_acceptance bad (zeros 48) bytes bad-checks).refused.0 six) in
    omega (arith, e)
