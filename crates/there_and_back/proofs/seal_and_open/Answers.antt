-- `there_and_back::seal_and_open` meets its contract: by what sealing and opening promise, and the round trip, which asks that text
-- and IV are bytes. Assumes nothing.
use Rattle.std.proofs.Common.{rules, refl}
use Rattle.answers.proofs.Numbers.{number-some}
use Rattle.words.specs.Bytes.{Bytes}
use Rattle.sm4.specs.Block.{Block}
use Rattle.there_and_back.proofs.ArrayBytes.{array_bytes}
use Rattle.there_and_back.proofs.Back.{not-sealed, sealed-within, length_cut, sealed-and-opened}
use Rattle.there_and_back.proofs.seal_and_open.Goals as goal

pub returns-in-Err : goal.returns-in-Err
returns-in-Err c = rw c.number.ensures (not-sealed (rw c.in-Err.is at c.protect_cbc-sealed.ensures) _ (number-some c.in-Err.why))

pub slice_bounds-deprotect_cbc-end : goal.slice_bounds-deprotect_cbc-end
slice_bounds-deprotect_cbc-end c = sealed-within (rw c.in-Ok.is at c.protect_cbc-sealed.ensures) refl

pub slice_bounds-deprotect_cbc-end-in-Ok : goal.slice_bounds-deprotect_cbc-end-in-Ok
slice_bounds-deprotect_cbc-end-in-Ok c = length_cut (rw c.in-Ok.is at c.protect_cbc-sealed.ensures) refl

-- the IV is a block and the text is bytes, by their types
pub returns-in-Ok : goal.returns-in-Ok
returns-in-Ok c =
    let iv : Block c.args.iv = record { size = search rules; bytes = array_bytes 16 c.args.iv _ c.well_formed.1.1.1.1.0 } in
    let text : Bytes c.args.plaintext.now = λ i. (c.type_inv.plaintext i).fits in
    sealed-and-opened (rw c.in-Ok.is at c.protect_cbc-sealed.ensures) refl iv text c.deprotect_cbc.ensures
