-- One outcome: what each public function of the library states, given what stood at its entry, is met by one outcome
-- only. Made by tools/calls from the text of each `ensures`; a crate that this one does not stand on has its laws
-- beside its promises. Assumes nothing.
use Rattle.std.specs.Prelude.{◌≡◌, ℕ, Bool, List, Result, ◌%◌, ◌+◌, ◌^◌, ◌-◌, ◌/◌, ltb, eqb, ◌++◌, replicate, take}
use Rattle.std.specs.Prelude.{length}
use Rattle.std.specs.Borrow.{Bor}
use Rattle.answers.specs.Answers.{number as answers-number, number_of}
use Rattle.answers.specs.declared.Refusal.{Refusal}
use Rattle.words.specs.Lists.{zip_with, xor_each, agree}
use Rattle.words.specs.Word.{◌⋘◌}
use Rattle.words.specs.Promise.{Copied, Filled}
use Rattle.words.specs.Choice.{bit, chosen}
use Rattle.words.specs.Bytes.{number as words-number, be}
use Rattle.sm3_compress.specs.Standard.{CF}
use Rattle.sm3.specs.Standard.{bytes_of}
use Rattle.sm3.specs.State.{fresh as sm3-fresh, update_of, updated as sm3-updated, digest_by}
use Rattle.sm3.specs.State.{finalized as sm3-finalized, hashed}
use Rattle.sm3.specs.declared.Sm3.{Sm3}
use Rattle.sm3.specs.Cutting.{joined}
use Rattle.sm3_lent.specs.Promise.{Started, Taken, Digested}
use Rattle.sm4_sbox.specs.Standard.{Sbox}
use Rattle.sm4.specs.Standard.{cipher_of, encrypt, decrypt}
use Rattle.sm4.specs.declared.Sm4Cipher.{Sm4Cipher}
use Rattle.cbc.specs.Promise.{Enciphered, Deciphered}
use Rattle.hmac.specs.Rfc2104.{B}
use Rattle.hmac.specs.State.{started as hmac-started, keyed_of, updated as hmac-updated, finalized as hmac-finalized}
use Rattle.hmac.specs.State.{verified_by, verified, mac}
use Rattle.hmac.specs.declared.HmacSm3.{HmacSm3}
use Rattle.hmac.specs.Cutting.{lent}
use Rattle.key_schedule.specs.Promise.{MasterSecret, KeyBlock, Finished}
use Rattle.key_schedule.specs.declared.TlcpRole.{TlcpRole}
use Rattle.record.specs.KeyBlock.{half_by, halved_by, client_keys, server_keys, keys_of}
use Rattle.record.specs.Standard.{header}
use Rattle.record.specs.Promise.{Protected}
use Rattle.record.specs.Sealing.{reported}
use Rattle.record.specs.declared.RecordKeysCbc.{RecordKeysCbc}
use Rattle.sizes.specs.Sizes.{size_answer, allowed as allowedBody, mac_steps, total_steps}
use Rattle.padding.specs.Scan.{checked}
use Rattle.mac_blocks.specs.Schedule.{inner_key, inner_block, outer_key, outer_digest}
use Rattle.mac_blocks.specs.declared.MacWords.{MacWords}
use Rattle.verdict.specs.Verdict.{extracted, verdict_of}
use Rattle.verdict.specs.Promise.{Cleared}
use Rattle.steps.specs.State.{started as steps-started}
use Rattle.steps.specs.Promise.{Step}
use Rattle.steps.specs.declared.OpeningCbc.{OpeningCbc}
use Rattle.opening.specs.Promise.{Deprotected}
use Rattle.border.specs.Promise.{Hashed, Maced, SealedFor, OpenedFor, EncipheredFor, DecipheredFor, MasterSecretFor}
use Rattle.border.specs.Promise.{KeyBlockFor, KeyHalvesFor, FinishedFor, StartedFor, TakenFor, DigestedFor}
use Rattle.lines.specs.Reading.{fresh as lines-fresh, taken, advanced, is_begun}
use Rattle.lines.specs.Hexadecimal.{is_hex, all_hex}
use Rattle.lines.specs.Input.{front}
use Rattle.lines.specs.declared.Line.{Line}
use Rattle.lines.specs.Judgement.{judged_line, max_line_len}
use Rattle.lines.specs.Promise.{JudgedPut, ChunkTold, LastTold}
use Rattle.lines.specs.declared.Judged.{Judged}

-- the result is one, where a bare equation gives it
abbrev pub Equation : {R : Type 0} → R → Type 0
Equation {R} x = (r s : R) → r ≡ x → s ≡ x → r ≡ s

-- the result is one, where what it says in the scope's numbers and values is given
abbrev pub Reading : {R S : Type 0} → (R → S) → S → Type 0
Reading {R} {S} f x = (r s : R) → f r ≡ x → f s ≡ x → r ≡ s

-- one thing promised, and it is one
abbrev pub One : {A : Type 0} → (A → Type 0) → Type 0
One {A} P = (x y : A) → P x → P y → x ≡ y

-- two things promised, and each is one
abbrev pub Two : {A B : Type 0} → (A → B → Type 0) → Type 0
Two {A} {B} P = (a b : A) (x y : B) → P a x → P b y → (a ≡ b) × (x ≡ y)

-- three things promised, and each is one
abbrev pub Three : {A B C : Type 0} → (A → B → C → Type 0) → Type 0
Three {A} {B} {C} P = (a b : A) (x y : B) (l k : C) → P a x l → P b y k → (a ≡ b) × (x ≡ y) × (l ≡ k)

-- four things promised, and each is one
abbrev pub Four : {A B C D : Type 0} → (A → B → C → D → Type 0) → Type 0
Four {A} {B} {C} {D} P = (a b : A) (x y : B) (l k : C) (m n : D) → P a x l m → P b y k n
    → (a ≡ b) × (x ≡ y) × (l ≡ k) × (m ≡ n)

-- five things promised, and each is one
abbrev pub Five : {A B C D E : Type 0} → (A → B → C → D → E → Type 0) → Type 0
Five {A} {B} {C} {D} {E} P = (a b : A) (x y : B) (l k : C) (m n : D) (p q : E) → P a x l m p → P b y k n q
    → (a ≡ b) × (x ≡ y) × (l ≡ k) × (m ≡ n) × (p ≡ q)

-- a line for each public function, under its crate and name; over every type, where it is
pub record Outcomes : Type 1 where
  -- answers
  pub «answers::Refusal::number» : (self : Refusal) → Equation (answers-number self)
  pub «answers::number_of» : (T : Type 0) (answer : Result T Refusal) → Equation (number_of answer)
  -- words
  pub «words::xor_each» : (T : Type 0) (xored : T → T → T) (a b : List T) → Equation (zip_with xored a b)
  pub «words::rotate_left» : (x n : ℕ) → Equation (x ⋘ (n % 32))
  pub «words::wrapping_add3» : (x y z : ℕ) → Equation ((x + y + z) % 2 ^ 32)
  pub «words::wrapping_add4» : (w x y z : ℕ) → Equation ((w + x + y + z) % 2 ^ 32)
  pub «words::div_ceil» : (a b : ℕ) → Equation ((a + (b - 1)) / b)
  pub «words::copy_at» : (out : List ℕ) (at : ℕ) (src : List ℕ) → One (Copied out at src)
  pub «words::fill_at» : (out : List ℕ) (at count byte : ℕ) → One (Filled out at count byte)
  -- masks
  pub «masks::ct_eq» : (T : Type 0) (eq : T → T → Bool) (a b : T) → Equation (bit (eq a b))
  pub «masks::ct_lt_usize» : (a b : ℕ) → Equation (bit (ltb a b))
  pub «masks::ct_is_zero_usize» : (d : ℕ) → Equation (bit (eqb d 0))
  pub «masks::select» : (T : Type 0) (a b : T) (choice : ℕ) → Equation (chosen choice a b)
  -- big_endian
  pub «big_endian::u16_from_be_bytes» : (b : List ℕ) → Equation (words-number b)
  pub «big_endian::u32_from_be_bytes» : (b : List ℕ) → Equation (words-number b)
  pub «big_endian::u64_from_be_bytes» : (b : List ℕ) → Equation (words-number b)
  pub «big_endian::u16_to_be_bytes» : (x : ℕ) → Equation (be 2 x)
  pub «big_endian::u32_to_be_bytes» : (x : ℕ) → Equation (be 4 x)
  pub «big_endian::u64_to_be_bytes» : (x : ℕ) → Equation (be 8 x)
  -- sm3_compress
  pub «sm3_compress::compress» : (state block : List ℕ) → Equation (CF state block)
  -- sm3
  pub «sm3::digest_of» : (v : List ℕ) → Equation (bytes_of v)
  pub «sm3::Sm3::new» : Equation sm3-fresh
  pub «sm3::Sm3::update» : (self : Sm3) («data» : List ℕ) → Reading (update_of self) (sm3-updated self «data»)
  pub «sm3::Sm3::finalize» : (self : Sm3) → Reading digest_by (sm3-finalized self)
  pub «sm3::hash» : (message : List ℕ) → Equation (hashed message).bytes
  -- sm3_lent
  pub «sm3_lent::start» : One Started
  pub «sm3_lent::update» : (h : Sm3) («data» : List ℕ) → Two (λ (r : Result Unit Refusal). Taken h «data» (number_of r))
  pub «sm3_lent::finish» : (h : Sm3) (digest : List ℕ)
      → Two (λ (r : Result Unit Refusal). Digested h digest (number_of r))
  pub «sm3_lent::hash_two» : (first second : List ℕ) → Equation (hashed (first ++ second)).bytes
  -- sm4_sbox
  pub «sm4_sbox::sbox_ct» : (x : ℕ) → Equation (Sbox x)
  -- sm4
  pub «sm4::Sm4Cipher::new» : (key : List ℕ) → Equation (cipher_of key)
  pub «sm4::Sm4Cipher::encrypt_block» : (self : Sm4Cipher) (block : List ℕ) → Equation (encrypt self.round_keys block)
  pub «sm4::Sm4Cipher::decrypt_block» : (self : Sm4Cipher) (block : List ℕ) → Equation (decrypt self.round_keys block)
  -- cbc
  pub «cbc::encipher_cbc» : (cipher : Sm4Cipher) (iv body : List ℕ) → One (Enciphered cipher iv body)
  pub «cbc::decipher_block_cbc» : (cipher : Sm4Cipher) («record» : List ℕ) (k : ℕ) (out : List ℕ)
      → One (Deciphered cipher «record» k out)
  -- hmac
  pub «hmac::xor_pad» : (block : List ℕ) (pad : ℕ) → Equation (xor_each block (replicate B pad))
  pub «hmac::ct_eq» : (a b : List ℕ) → Equation (bit (agree a b))
  pub «hmac::HmacSm3::new» : (key : List ℕ) → Equation (hmac-started key).mac
  pub «hmac::HmacSm3::update» : (self : HmacSm3) («data» : List ℕ) → Reading (keyed_of self) (hmac-updated self «data»)
  pub «hmac::HmacSm3::finalize» : (self : HmacSm3) → Reading digest_by (hmac-finalized self)
  pub «hmac::HmacSm3::verify» : (self : HmacSm3) (expected : List ℕ) → Reading verified_by (verified self expected)
  pub «hmac::hmac_sm3_parts» : (key : List ℕ) (parts : List (Bor (List ℕ)))
      → Equation (mac key (joined (lent parts))).bytes
  pub «hmac::hmac_sm3» : (key message : List ℕ) → Equation (mac key message).bytes
  -- key_schedule
  pub «key_schedule::derive_master_secret» : (pre_master client_random server_random out : List ℕ)
      → Two (λ (r : Result Unit Refusal). MasterSecret pre_master client_random server_random out (number_of r))
  pub «key_schedule::derive_key_block» : (master_secret client_random server_random out : List ℕ)
      → Two (λ (r : Result Unit Refusal). KeyBlock master_secret client_random server_random out (number_of r))
  pub «key_schedule::finished_verify_data» : (master_secret : List ℕ) (role : TlcpRole) (transcript_hash out : List ℕ)
      → Two (λ (r : Result Unit Refusal). Finished master_secret role transcript_hash out (number_of r))
  -- record
  pub «record::RecordKeysCbc::client_half» : (key_block : List ℕ) → Reading half_by (halved_by client_keys key_block)
  pub «record::RecordKeysCbc::server_half» : (key_block : List ℕ) → Reading half_by (halved_by server_keys key_block)
  pub «record::RecordKeysCbc::from_key_block» : (role : TlcpRole) (key_block : List ℕ)
      → Reading half_by (halved_by (keys_of role) key_block)
  pub «record::record_header» : (seq content_type : ℕ) (version : List ℕ) (len : ℕ)
      → Equation (header seq content_type version len)
  pub «record::protect_cbc» : (keys : RecordKeysCbc) (seq content_type : ℕ) (version iv plaintext out : List ℕ)
      → Two (λ r. Protected keys seq content_type version iv plaintext out (reported r))
  -- sizes
  pub «sizes::size_answer» : (record_len : ℕ) → Reading {R = Result Unit Refusal} number_of (size_answer record_len)
  pub «sizes::allowed» : (n : ℕ) → Equation (allowedBody n)
  pub «sizes::mac_steps» : (n : ℕ) → Equation (mac_steps n)
  pub «sizes::total_steps» : (n : ℕ) → Equation (total_steps n)
  -- padding
  pub «padding::check_tls_padding_ct» : (body : List ℕ) → Equation (checked body)
  -- mac_blocks
  pub «mac_blocks::inner_key» : (mac_key : List ℕ) → Equation (inner_key mac_key)
  pub «mac_blocks::inner_block» : (so_far : MacWords) (header «data» : List ℕ) (plaintext_len b : ℕ)
      → Equation (inner_block so_far (header ++ take plaintext_len «data») b)
  pub «mac_blocks::outer_key» : (mac_key : List ℕ) → Equation (outer_key mac_key)
  pub «mac_blocks::outer_digest» : (words kept : List ℕ) → Equation (outer_digest words kept)
  -- verdict
  pub «verdict::extract_mac_ct» : (body : List ℕ) (plaintext_len : ℕ) → Equation (extracted body plaintext_len)
  pub «verdict::verdict_ct» : (pad_ok : Bool) (received computed : List ℕ) (held : ℕ)
      → Equation (verdict_of pad_ok received computed held)
  pub «verdict::clear_from_ct» : (body : List ℕ) (keep : ℕ) → One (Cleared body keep)
  -- steps
  pub «steps::start_cbc» : (keys : RecordKeysCbc) (seq content_type : ℕ) (version : List ℕ) (record_len room : ℕ)
      → Equation (steps-started keys seq content_type version record_len room)
  pub «steps::step_cbc» : (opening : OpeningCbc) («record» out : List ℕ) → Two (Step opening «record» out)
  -- opening
  pub «opening::deprotect_cbc» : (keys : RecordKeysCbc) (seq content_type : ℕ) (version «record» out : List ℕ)
      → Two (Deprotected keys seq content_type version «record» out)
  -- border
  pub «border::noustrel_sm3» : (message digest : List ℕ) → Two (Hashed message digest)
  pub «border::noustrel_hmac_sm3» : (key message mac : List ℕ) → Two (Maced key message mac)
  pub «border::noustrel_seal» : (mac_key enc_key : List ℕ) (number content_type version : ℕ) (iv text out : List ℕ)
      → Three (SealedFor mac_key enc_key number content_type version iv text out)
  pub «border::noustrel_open» : (mac_key enc_key : List ℕ) (number content_type version : ℕ) («record» out : List ℕ)
      → Four (OpenedFor mac_key enc_key number content_type version «record» out)
  pub «border::noustrel_sm4_encrypt_block» : (key block out : List ℕ) → Two (EncipheredFor key block out)
  pub «border::noustrel_sm4_decrypt_block» : (key block out : List ℕ) → Two (DecipheredFor key block out)
  pub «border::noustrel_master_secret» : (pre_master client_random server_random out : List ℕ)
      → Two (MasterSecretFor pre_master client_random server_random out)
  pub «border::noustrel_key_block» : (master_secret client_random server_random out : List ℕ)
      → Two (KeyBlockFor master_secret client_random server_random out)
  pub «border::noustrel_key_halves» : (key_block client_mac_key server_mac_key client_enc_key server_enc_key : List ℕ)
      → Five (KeyHalvesFor key_block client_mac_key server_mac_key client_enc_key server_enc_key)
  pub «border::noustrel_finished» : (master_secret : List ℕ) (role : ℕ) (transcript_hash out : List ℕ)
      → Two (FinishedFor master_secret role transcript_hash out)
  pub «border::noustrel_sm3_start» : One StartedFor
  pub «border::noustrel_sm3_update» : (h : Sm3) («data» : List ℕ) → Two (TakenFor h «data»)
  pub «border::noustrel_sm3_finish» : (h : Sm3) (digest : List ℕ) → Two (DigestedFor h digest)
  -- lines
  pub «lines::start_line» : Equation lines-fresh
  pub «lines::is_hex» : (byte : ℕ) → Equation (is_hex byte)
  pub «lines::all_hex» : (part : List ℕ) → Equation (all_hex part)
  pub «lines::line_end» : (input : List ℕ) → Equation (length (front input))
  pub «lines::take_part» : (line : Line) (part : List ℕ) → Equation (taken line part)
  pub «lines::advance» : (line : Line) (input : List ℕ) → Equation (advanced line input)
  pub «lines::is_begun» : (line : Line) → Equation (is_begun line)
  pub «lines::judge» : (line : Line) (max_line : ℕ) → Equation (judged_line max_line line)
  pub «lines::judge_line» : (line : Line) → Equation (judged_line max_line_len line)
  pub «lines::put_judged» : (judged : Judged) (out : List ℕ) (at : ℕ) → Two (JudgedPut judged out at)
  pub «lines::tell» : (line : Line) (chunk out : List ℕ) → Two (ChunkTold line chunk out)
  pub «lines::tell_last» : (line : Line) (out : List ℕ) → Two (LastTold line out)
