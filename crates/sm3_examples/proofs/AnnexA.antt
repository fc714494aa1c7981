-- The definitions give what the annex prints, by computing them. Assumes nothing.
use mathlib.Core.Path.{refl}
use Rattle.words.specs.Bytes.{be, number}
use Rattle.words.specs.Lists.{table, grow, join, xor_each}
use Rattle.words.specs.Word.{◌⊕◌, ◌⋘◌, not32}
use Rattle.sm3_compress.specs.Standard.{T, FF, GG, P0, P1, word, words, recurrence, next_w, W, prime_at, W', SS1, SS2, TT1, TT2, ABCDEFGH, round, rounds, CF}
use Rattle.sm3.specs.Standard.{zeros, count, ending, padded, iterated, iteration, word_bytes, bytes_of, SM3}
use Rattle.sm3_examples.specs.AnnexA.{AnnexA}

-- by computing
pub annex_A : AnnexA
unfolding be number table grow join xor_each ◌⊕◌ ◌⋘◌ not32 T FF GG P0 P1 word words recurrence next_w W prime_at W' SS1 SS2 TT1 TT2 ABCDEFGH round rounds CF zeros count ending padded iterated iteration word_bytes bytes_of SM3
annex_A = record { W-first = refl; w_16 = refl; w_64 = refl; A1 = refl; A2 = refl }
