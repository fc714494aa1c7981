-- Demand 2 for hash, MAC, cipher and key schedule: the laws of their crates, cited. Assumes nothing.
use mathlib.Core.Bool.{Bool, true, false, ◌&&◌}
use mathlib.Core.List.{List, ◌∷◌, ◌++◌}
use mathlib.Core.Logic.{◌↔◌, ◌⊎◌, ⊎_elim}
use mathlib.Core.Path.{◌≡◌, refl, sym, ap, ◌∙◌}
use Prim.Native.Nat.{ℕ, suc, ◌+◌, ◌*◌, ◌/◌, ◌%◌, ◌≤◌, ◌<◌}
use native.Mathlib.Nat.{mod-lt, zero-lt-suc}
use native.Mathlib.Omega.{arith}
use borrow.Author.Tests.{ltb-true, ltb-false, lt-ltb, le-ltb, leb-true, le-leb, eqb-true, eq-eqb, ne_eqb}
use lib.Dec.{eqb, leb, ltb, lit<}
use lib.ListN.{length, get_or, replicate, get_or-eq_default}
use lib.Seq.{get_or-take}
use Rattle.answers.specs.Answers.{Done, BadState, WrongSize}
use Rattle.words.specs.Bytes.{Bytes}
use Rattle.words.specs.Lists.{table, join, agree}
use Rattle.words.proofs.Agree.{agree_refl, agree-eq}
use Rattle.words.proofs.Bytes.{be-number, be_wrap_64}
use Rattle.words.proofs.Lists.{get_or-table, get_or-block, block_join}
use Rattle.words.proofs.Tests.{both, untrue, left_fails, right_fails}
use Rattle.sm3.specs.State.{Digest}
use Rattle.sm3.specs.declared.Sm3.{Sm3}
use Rattle.sm3.specs.State.{Updated}
use Rattle.sm3.specs.Cutting.{joined}
use Rattle.sm3.specs.Standard.{IV, zeros, count, ending, iteration, bytes_of, SM3}
use Rattle.sm3.specs.State.{hashed, updated, finalized}
use Rattle.sm3.proofs.Alike.{alike_digest}
use Rattle.sm3.proofs.Cutting.{cut}
use Rattle.sm3.proofs.Ending.{count_wraps}
use Rattle.sm3.proofs.Standard.{hash-standard}
use Rattle.hmac.specs.declared.HmacSm3.{HmacSm3}
use Rattle.hmac.specs.State.{Keyed}
use Rattle.hmac.specs.Cutting.{fed as fedMac}
use Rattle.hmac.specs.Rfc2104.{HMAC}
use Rattle.hmac.specs.State.{hash_bytes, started, in_range, verified, mac, updated as updatedMac, finalized as finalizedMac}
use Rattle.hmac.proofs.Mac.{mac-standard, cut as cut-mac}
use Rattle.sm4_sbox.proofs.Once.{once}
use Rattle.sm4.specs.Standard.{ck, CK}
use Rattle.sm4.proofs.AnnexA.{annex_A}
use Rattle.sm4.proofs.Inverse.{cipher-decrypt-encrypt, cipher-encrypt-decrypt}
use Rattle.key_schedule.specs.declared.TlcpRole.{TlcpRole}
use Rattle.key_schedule.specs.Promise.{MasterSecret, KeyBlock, Finished}
use Rattle.key_schedule.specs.Sizes.{inputs_right, master_secret_sizes, key_block_sizes, finished_sizes}
use Rattle.key_schedule.specs.Standard.{A, block, blocks, P_hash, PRF, master_secret, key_block, finished}
use Rattle.key_schedule.proofs.Blocks.{length_P_hash}
use Rattle.key_schedule.proofs.Lengths.{length-HMAC}
use Rattle.key_schedule.proofs.Sizes.{inputs-lengths}
use Rattle.record.specs.KeyBlock.{client_keys, server_keys, zero_keys, halved_by, keys_of}
use Rattle.demands.specs.Parts.{Hash, Mac, Cipher, Keys}

-- ---- SM3

-- a fill above 63 is refused
fill-refused : (h : Sm3) (d : List ℕ) → 63 < h.buffer_len
    → ◌≡◌ {A = Updated} (updated h d) (record { answer = BadState; hasher = h })
    × ◌≡◌ {A = Digest} (finalized h) (record { answer = BadState; bytes = replicate 32 0 })
unfolding updated finalized
fill-refused h d b = (rw (le-ltb h.buffer_len 64 b), rw (le-ltb h.buffer_len 64 b))

-- and no other
fill-fits : (h : Sm3) (d : List ℕ) → h.buffer_len ≤ 63 → ((updated h d).answer ≡ Done) × ((finalized h).answer ≡ Done)
unfolding updated finalized
fill-fits h d b = (rw (lt-ltb h.buffer_len 64 (omega arith)), rw (lt-ltb h.buffer_len 64 (omega arith)))

-- the count of the wrapped total is the wrapped count
pub hash : Hash
unfolding hashed ending count
hash =
    record {
      standard = hash-standard;
      wrapped = λ m.
          rw (count_wraps (length m))
          (ap
          (λ (c : List ℕ). record { answer = Done; bytes = bytes_of (iteration IV (m ++ (0x80 ∷ (replicate (zeros (length m)) 0 ++ c)))) })
          (sym (be_wrap_64 (8 * length m))));
      cut = cut;
      fill_only = alike_digest;
      refused = fill-refused;
      not-refused = fill-fits;
    }

-- ---- HMAC

-- the digest that is compared is the MAC's
verifies : (K : List ℕ) (ds : List (List ℕ)) (expected : List ℕ)
    → ((verified (fedMac (started K).mac ds) expected).matches ≡ true) ↔ ((mac K (joined ds)).bytes ≡ expected)
unfolding verified mac
verifies K ds expected =
    rw (cut-mac K ds)
    (agree-eq (mac K (joined ds)).bytes expected, λ e. rw (← e) (agree_refl (mac K (joined ds)).bytes))

-- whatever the state is, the answer is the digest's, and yes is Done and all bytes
verifies-any : (m : HmacSm3) (expected : List ℕ)
    → ((verified m expected).answer ≡ (finalizedMac m).answer)
    × (((verified m expected).matches ≡ true) ↔ (((finalizedMac m).answer ≡ Done) × ((finalizedMac m).bytes ≡ expected)))
unfolding verified
verifies-any m expected =
    let d = finalizedMac m in (
      refl,
      (
        λ t.
            let s = both (eqb d.answer Done) (agree d.bytes expected) t in
            (eqb-true d.answer Done s.0, agree-eq d.bytes expected s.1),
        λ e. rw (eq-eqb d.answer Done e.0, ← e.1) (agree_refl d.bytes),
      ),
    )

-- a fill above 63 in either hash
either-out : (m : HmacSm3) → (63 < m.inner.buffer_len) ⊎ (63 < m.outer.buffer_len) → in_range m ≡ false
unfolding in_range
either-out m =
    let i = m.inner.buffer_len in
    let o = m.outer.buffer_len in
    ⊎_elim (λ h. left_fails (ltb i 64) (ltb o 64) (le-ltb i 64 h)) (λ h. right_fails (ltb i 64) (ltb o 64) (le-ltb o 64 h))

-- is refused
mac-refused : (m : HmacSm3) (d : List ℕ) → (63 < m.inner.buffer_len) ⊎ (63 < m.outer.buffer_len)
    → ◌≡◌ {A = Keyed} (updatedMac m d) (record { answer = BadState; mac = m })
    × ◌≡◌ {A = Digest} (finalizedMac m) (record { answer = BadState; bytes = replicate 32 0 })
unfolding updatedMac finalizedMac
mac-refused m d h = (rw (either-out m h), rw (either-out m h))

-- and nothing else
mac-fits : (m : HmacSm3) (d : List ℕ) → m.inner.buffer_len ≤ 63 → m.outer.buffer_len ≤ 63
    → ((updatedMac m d).answer ≡ Done) × ((finalizedMac m).answer ≡ Done)
unfolding updatedMac finalizedMac in_range
mac-fits m d a b =
    let i = lt-ltb m.inner.buffer_len 64 (omega arith) in
    let o = lt-ltb m.outer.buffer_len 64 (omega arith) in
    (rw (i, o), rw (i, o))

-- the laws of hmac
pub mac_is : Mac
unfolding mac hash_bytes
mac_is =
    record {
      over_the_hash = λ K m. refl;
      the_hash = λ m. refl;
      standard = mac-standard;
      cut = cut-mac;
      verified_exactly = verifies;
      verified-any = verifies-any;
      refused = mac-refused;
      not-refused = mac-fits;
    }

-- ---- SM4

-- CK's bytes are bytes
bytes-CK : (i : ℕ) → Bytes (table (ck i) 4)
unfolding table ck
bytes-CK i k = by (ltb k 4) refl
  where
    by : (t : Bool) → ltb k 4 ≡ t → get_or (table (ck i) 4) k 0 < 256
    by true e = rw (get_or-table (ck i) 4 k 0 (ltb-true k 4 e)) (mod-lt ((4 * i + k) * 7) (zero-lt-suc 255))
    by false e = rw (get_or-eq_default (table (ck i) 4) 0 (ltb-false k 4 e)) (lit< tt)

-- four bytes made into a number are its four bytes
pub cipher : Cipher
unfolding CK ck table
cipher =
    record {
      decrypts = cipher-decrypt-encrypt;
      encrypts = cipher-encrypt-decrypt;
      CK-bytes = λ i j h. ap (λ (l : List ℕ). get_or l j 0) (be-number (table (ck i) 4) (bytes-CK i)) ∙ get_or-table (ck i) 4 j 0 h;
      S_box_once = λ y h.
          let p = once.at_least y h in
          (p.place, p.below, p.holds, λ j b e. once.at_most j p.place b p.below (e ∙ sym p.holds));
      example = annex_A;
    }

-- ---- the key schedule

-- a byte of the blocks end to end
P_byte : (secret seed : List ℕ) (n k : ℕ) → k < n
    → get_or (P_hash (HMAC SM3) secret seed n) k 0 ≡ get_or (HMAC SM3 secret (A (HMAC SM3) secret seed (suc (k / 32)) ++ seed)) (k % 32) 0
unfolding P_hash block
P_byte secret seed n k h =
    let f = block (HMAC SM3) secret seed in
    let all = join (blocks n) f in
    let e : k ≡ k / 32 * 32 + k % 32 = omega arith in
    get_or-take n all k 0 h
    ∙ ap (λ (i : ℕ). get_or all i 0) e
    ∙ sym (get_or-block 32 (k / 32) all (k % 32) 0 (omega arith))
    ∙ ap (λ (l : List ℕ). get_or l (k % 32) 0)
    (block_join 32 f (blocks n) (k / 32) (λ j _. length-HMAC secret (A (HMAC SM3) secret seed (suc j) ++ seed)) (omega arith))

-- the promise of a refused derivation
master_refused : (m c s out : List ℕ) (a : ℕ) (x : List ℕ) → MasterSecret m c s out a x
    → ((length m ≡ 48) × (length c ≡ 32) × (length s ≡ 32) × (length out ≡ 48) → ⊥) → (a ≡ WrongSize) × (x ≡ out)
unfolding master_secret_sizes
master_refused m c s out a x p wrong =
    let sizes : master_secret_sizes m c s out ≡ false =
    untrue _
    (λ e.
    let t = both (inputs_right m c s) (eqb (length out) 48) e in
    let i = inputs-lengths m c s t.0 in
    wrong (i.0, i.1, i.2, eqb-true (length out) 48 t.1)) in
    (p.result ∙ rw sizes, p.output ∙ rw sizes)

block_refused : (m c s out : List ℕ) (a : ℕ) (x : List ℕ) → KeyBlock m c s out a x
    → ((length m ≡ 48) × (length c ≡ 32) × (length s ≡ 32) × (length out ≤ 1024) → ⊥) → (a ≡ WrongSize) × (x ≡ out)
unfolding key_block_sizes
block_refused m c s out a x p wrong =
    let sizes : key_block_sizes m c s out ≡ false =
    untrue _
    (λ e.
    let t = both (inputs_right m c s) (leb (length out) 1024) e in
    let i = inputs-lengths m c s t.0 in
    wrong (i.0, i.1, i.2, leb-true (length out) 1024 t.1)) in
    (p.result ∙ rw sizes, p.output ∙ rw sizes)

finish_refused : (m : List ℕ) (role : TlcpRole) (t out : List ℕ) (a : ℕ) (x : List ℕ) → Finished m role t out a x
    → ((length m ≡ 48) × (length t ≡ 32) × (length out ≡ 12) → ⊥) → (a ≡ WrongSize) × (x ≡ out)
unfolding finished_sizes
finish_refused m role t out a x p wrong =
    let sizes : finished_sizes m t out ≡ false =
    untrue _
    (λ e.
    let f = both (eqb (length m) 48 && eqb (length t) 32) (eqb (length out) 12) e in
    let g = both (eqb (length m) 48) (eqb (length t) 32) f.0 in
    wrong (eqb-true (length m) 48 g.0, eqb-true (length t) 32 g.1, eqb-true (length out) 12 f.1)) in
    (p.result ∙ rw sizes, p.output ∙ rw sizes)

-- the sizes are right, so the promise is the derivation
pub keys : Keys
unfolding A master_secret_sizes key_block_sizes finished_sizes inputs_right PRF master_secret key_block finished halved_by keys_of client_keys server_keys zero_keys
keys =
    record {
      A-first = λ secret seed. refl;
      A-next = λ secret seed i. refl;
      P_length = λ secret seed n. length_P_hash (HMAC SM3) secret seed (length-HMAC secret) n;
      P_bytes = P_byte;
      master_secret_lem = λ preMaster client server out answer out' p a b c d.
          (rw (a, b, c, d) at p.result, rw (a, b, c, d) at p.output);
      key-block = λ master client server out answer out' p a b c d.
          (rw (a, b, c, le-leb (length out) 1024 d) at p.result, rw (a, b, c, le-leb (length out) 1024 d) at p.output);
      client-finished = λ master transcript out answer out' p a b c. (rw (a, b, c) at p.result, rw (a, b, c) at p.output);
      server-finished = λ master transcript out answer out' p a b c. (rw (a, b, c) at p.result, rw (a, b, c) at p.output);
      master_secret-refused = master_refused;
      key-block-refused = block_refused;
      finished-refused = finish_refused;
      client_half = λ b e. rw e;
      server_half = λ b e. rw e;
      client_role = λ b. refl;
      server_role = λ b. refl;
      no_half = λ role b h. rw (ne_eqb (length b) 128 h);
    }
