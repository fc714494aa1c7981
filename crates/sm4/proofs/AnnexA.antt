-- The definitions give what the annex prints, by computing them. Assumes nothing.
use mathlib.Core.Path.{refl}
use Rattle.words.specs.Bytes.{be, number}
use Rattle.words.specs.Lists.{table}
use Rattle.words.specs.Word.{◌⊕◌, ◌⋘◌}
use Rattle.sm4_sbox.specs.Standard.{sbox_table, Sbox}
use Rattle.sm4.specs.Standard.{tau, L, T, F, words_of, bytes_of, round, rounds, encrypt, decrypt, L', T', ck, CK, key_start, key_round, keys_from, round_keys_of}
use Rattle.sm4.specs.AnnexA.{AnnexA}

-- key, block and table of the annex
pub annex_A : AnnexA
unfolding be number table ◌⊕◌ ◌⋘◌ sbox_table Sbox tau L T F words_of bytes_of round rounds encrypt decrypt L' T' ck CK key_start key_round keys_from round_keys_of
annex_A =
    record {
      rk_first = refl;
      rk_last = refl;
      encrypted = refl;
      decrypted = refl;
      CK-first = refl;
      CK-last = refl;
    }
