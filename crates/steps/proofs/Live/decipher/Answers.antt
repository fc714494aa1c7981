-- `steps::Live::decipher` meets its contract: record and output have the block, so it is deciphered. Assumes nothing.
use Rattle.std.proofs.Common.{◌∙◌}
use native.Mathlib.Omega.{arith}
use Rattle.sm4.specs.Standard.{decrypt, round_keys_of, cipher_of}
use Rattle.cbc.proofs.Deciphered.{deciphered-block}
use Rattle.steps.specs.Step.{output_by}
use Rattle.steps.proofs.Live.decipher.Goals as goal

pub returns-clause-output : goal.returns-clause-output
unfolding output_by cipher_of
returns-clause-output c =
    let a = c.args in
    let D = decrypt (round_keys_of a.self.opening.enc_key) in
    c.decipher_block_cbc.ensures.output
    ∙ rw c.new.ensures (deciphered-block D a.«record».now a.k a.out.now (omega arith) (omega arith))
