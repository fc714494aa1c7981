-- Each public contract of the library has one outcome: a bare equation by one law, a promise by the law beside it. Made
-- by tools/calls. Assumes nothing.
use Rattle.std.proofs.Common.{◌≡◌, sym, ◌∙◌}
use Rattle.answers.proofs.Numbers.{number_of-one_outcome}
use Rattle.words.proofs.OneOutcome.{Copied-one_outcome, Filled-one_outcome}
use Rattle.sm3.proofs.OneOutcome.{update_of-one_outcome, digest_by-one_outcome}
use Rattle.sm3_lent.proofs.OneOutcome.{Started-one_outcome, Taken-one_outcome, Digested-one_outcome}
use Rattle.cbc.proofs.OneOutcome.{Enciphered-one_outcome, Deciphered-one_outcome}
use Rattle.hmac.proofs.OneOutcome.{keyed_of-one_outcome, verified_by-one_outcome}
use Rattle.key_schedule.proofs.OneOutcome.{MasterSecret-one_outcome, KeyBlock-one_outcome, Finished-one_outcome}
use Rattle.record.proofs.OneOutcome.{half_by-one_outcome, Protected-one_outcome, reported-one_outcome}
use Rattle.verdict.proofs.OneOutcome.{Cleared-one_outcome}
use Rattle.steps.proofs.OneOutcome.{Step-one_outcome}
use Rattle.opening.proofs.OneOutcome.{Deprotected-one_outcome}
use Rattle.border.proofs.OneOutcome.{Hashed-one_outcome, Maced-one_outcome, SealedFor-one_outcome}
use Rattle.border.proofs.OneOutcome.{OpenedFor-one_outcome, EncipheredFor-one_outcome, DecipheredFor-one_outcome}
use Rattle.border.proofs.OneOutcome.{MasterSecretFor-one_outcome, KeyBlockFor-one_outcome, KeyHalvesFor-one_outcome}
use Rattle.border.proofs.OneOutcome.{FinishedFor-one_outcome, StartedFor-one_outcome, TakenFor-one_outcome}
use Rattle.border.proofs.OneOutcome.{DigestedFor-one_outcome}
use Rattle.lines.proofs.OneOutcome.{JudgedPut-one_outcome, ChunkTold-one_outcome, LastTold-one_outcome}
use Rattle.demands.specs.Outcomes.{Outcomes}

-- what equals one thing is one
pub equation-one_outcome : {R : Type 0} (x r s : R) → r ≡ x → s ≡ x → r ≡ s
equation-one_outcome x r s p q = p ∙ sym q

-- by that law, and by those of the promises
pub outcomes : Outcomes
outcomes =
    record {
      «answers::Refusal::number» = λ self. equation-one_outcome _;
      «answers::number_of» = λ T answer. equation-one_outcome _;
      «words::xor_each» = λ T xored a b. equation-one_outcome _;
      «words::rotate_left» = λ x n. equation-one_outcome _;
      «words::wrapping_add3» = λ x y z. equation-one_outcome _;
      «words::wrapping_add4» = λ w x y z. equation-one_outcome _;
      «words::div_ceil» = λ a b. equation-one_outcome _;
      «words::copy_at» = λ out at src _ _. Copied-one_outcome;
      «words::fill_at» = λ out at count byte _ _. Filled-one_outcome;
      «masks::ct_eq» = λ T eq a b. equation-one_outcome _;
      «masks::ct_lt_usize» = λ a b. equation-one_outcome _;
      «masks::ct_is_zero_usize» = λ d. equation-one_outcome _;
      «masks::select» = λ T a b choice. equation-one_outcome _;
      «big_endian::u16_from_be_bytes» = λ b. equation-one_outcome _;
      «big_endian::u32_from_be_bytes» = λ b. equation-one_outcome _;
      «big_endian::u64_from_be_bytes» = λ b. equation-one_outcome _;
      «big_endian::u16_to_be_bytes» = λ x. equation-one_outcome _;
      «big_endian::u32_to_be_bytes» = λ x. equation-one_outcome _;
      «big_endian::u64_to_be_bytes» = λ x. equation-one_outcome _;
      «sm3_compress::compress» = λ state block. equation-one_outcome _;
      «sm3::digest_of» = λ v. equation-one_outcome _;
      «sm3::Sm3::new» = equation-one_outcome _;
      «sm3::Sm3::update» = λ self «data» r s p q. update_of-one_outcome self r s (p ∙ sym q);
      «sm3::Sm3::finalize» = λ self r s p q. digest_by-one_outcome r s (p ∙ sym q);
      «sm3::hash» = λ message. equation-one_outcome _;
      «sm3_lent::start» = Started-one_outcome;
      «sm3_lent::update» =
          λ h «data» r s x y p q. let o = Taken-one_outcome h «data» _ _ x y p q in (number_of-one_outcome r s o.0, o.1);
      «sm3_lent::finish» =
          λ h digest r s x y p q. let o = Digested-one_outcome h digest _ _ x y p q in (number_of-one_outcome r s o.0, o.1);
      «sm3_lent::hash_two» = λ first second. equation-one_outcome _;
      «sm4_sbox::sbox_ct» = λ x. equation-one_outcome _;
      «sm4::Sm4Cipher::new» = λ key. equation-one_outcome _;
      «sm4::Sm4Cipher::encrypt_block» = λ self block. equation-one_outcome _;
      «sm4::Sm4Cipher::decrypt_block» = λ self block. equation-one_outcome _;
      «cbc::encipher_cbc» = λ cipher iv body _ _. Enciphered-one_outcome;
      «cbc::decipher_block_cbc» = λ cipher «record» k out _ _. Deciphered-one_outcome;
      «hmac::xor_pad» = λ block pad. equation-one_outcome _;
      «hmac::ct_eq» = λ a b. equation-one_outcome _;
      «hmac::HmacSm3::new» = λ key. equation-one_outcome _;
      «hmac::HmacSm3::update» = λ self «data» r s p q. keyed_of-one_outcome self r s (p ∙ sym q);
      «hmac::HmacSm3::finalize» = λ self r s p q. digest_by-one_outcome r s (p ∙ sym q);
      «hmac::HmacSm3::verify» = λ self expected r s p q. verified_by-one_outcome r s (p ∙ sym q);
      «hmac::hmac_sm3_parts» = λ key parts. equation-one_outcome _;
      «hmac::hmac_sm3» = λ key message. equation-one_outcome _;
      «key_schedule::derive_master_secret» =
          λ pre_master client_random server_random out r s x y p q. let o = MasterSecret-one_outcome p q in (number_of-one_outcome r s o.0, o.1);
      «key_schedule::derive_key_block» =
          λ master_secret client_random server_random out r s x y p q. let o = KeyBlock-one_outcome p q in (number_of-one_outcome r s o.0, o.1);
      «key_schedule::finished_verify_data» =
          λ master_secret role transcript_hash out r s x y p q. let o = Finished-one_outcome p q in (number_of-one_outcome r s o.0, o.1);
      «record::RecordKeysCbc::client_half» = λ key_block r s p q. half_by-one_outcome r s (p ∙ sym q);
      «record::RecordKeysCbc::server_half» = λ key_block r s p q. half_by-one_outcome r s (p ∙ sym q);
      «record::RecordKeysCbc::from_key_block» = λ role key_block r s p q. half_by-one_outcome r s (p ∙ sym q);
      «record::record_header» = λ seq content_type version len. equation-one_outcome _;
      «record::protect_cbc» =
          λ keys seq content_type version iv plaintext out r s x y p q. let o = Protected-one_outcome p q in (reported-one_outcome r s o.0, o.1);
      «sizes::size_answer» = λ record_len r s p q. number_of-one_outcome r s (p ∙ sym q);
      «sizes::allowed» = λ n. equation-one_outcome _;
      «sizes::mac_steps» = λ n. equation-one_outcome _;
      «sizes::total_steps» = λ n. equation-one_outcome _;
      «padding::check_tls_padding_ct» = λ body. equation-one_outcome _;
      «mac_blocks::inner_key» = λ mac_key. equation-one_outcome _;
      «mac_blocks::inner_block» = λ so_far header «data» plaintext_len b. equation-one_outcome _;
      «mac_blocks::outer_key» = λ mac_key. equation-one_outcome _;
      «mac_blocks::outer_digest» = λ words kept. equation-one_outcome _;
      «verdict::extract_mac_ct» = λ body plaintext_len. equation-one_outcome _;
      «verdict::verdict_ct» = λ pad_ok received computed held. equation-one_outcome _;
      «verdict::clear_from_ct» = λ body keep _ _. Cleared-one_outcome;
      «steps::start_cbc» = λ keys seq content_type version record_len room. equation-one_outcome _;
      «steps::step_cbc» = λ opening «record» out _ _ _ _. Step-one_outcome;
      «opening::deprotect_cbc» = λ keys seq content_type version «record» out _ _ _ _. Deprotected-one_outcome;
      «border::noustrel_sm3» = λ message digest _ _ _ _. Hashed-one_outcome;
      «border::noustrel_hmac_sm3» = λ key message mac _ _ _ _. Maced-one_outcome;
      «border::noustrel_seal» =
          λ mac_key enc_key number content_type version iv text out _ _ _ _ _ _. SealedFor-one_outcome;
      «border::noustrel_open» =
          λ mac_key enc_key number content_type version «record» out _ _ _ _ _ _ _ _. OpenedFor-one_outcome;
      «border::noustrel_sm4_encrypt_block» = λ key block out _ _ _ _. EncipheredFor-one_outcome;
      «border::noustrel_sm4_decrypt_block» = λ key block out _ _ _ _. DecipheredFor-one_outcome;
      «border::noustrel_master_secret» =
          λ pre_master client_random server_random out _ _ _ _. MasterSecretFor-one_outcome;
      «border::noustrel_key_block» = λ master_secret client_random server_random out _ _ _ _. KeyBlockFor-one_outcome;
      «border::noustrel_key_halves» =
          λ key_block client_mac_key server_mac_key client_enc_key server_enc_key _ _ _ _ _ _ _ _ _ _. KeyHalvesFor-one_outcome;
      «border::noustrel_finished» = λ master_secret role transcript_hash out _ _ _ _. FinishedFor-one_outcome;
      «border::noustrel_sm3_start» = λ _ _. StartedFor-one_outcome;
      «border::noustrel_sm3_update» = λ h «data» _ _ _ _. TakenFor-one_outcome;
      «border::noustrel_sm3_finish» = λ h digest _ _ _ _. DigestedFor-one_outcome;
      «lines::start_line» = equation-one_outcome _;
      «lines::is_hex» = λ byte. equation-one_outcome _;
      «lines::all_hex» = λ part. equation-one_outcome _;
      «lines::line_end» = λ input. equation-one_outcome _;
      «lines::take_part» = λ line part. equation-one_outcome _;
      «lines::advance» = λ line input. equation-one_outcome _;
      «lines::is_begun» = λ line. equation-one_outcome _;
      «lines::judge» = λ line max_line. equation-one_outcome _;
      «lines::judge_line» = λ line. equation-one_outcome _;
      «lines::put_judged» = λ judged out at _ _ _ _. JudgedPut-one_outcome;
      «lines::tell» = λ line chunk out _ _ _ _. ChunkTold-one_outcome;
      «lines::tell_last» = λ line out _ _ _ _. LastTold-one_outcome;
    }
