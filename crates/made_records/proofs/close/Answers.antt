-- `made_records::close` meets its contract: the IV, and behind it the body enciphered. Assumes nothing.
use Rattle.std.proofs.Common.{◌≡◌, true, false, leb, length, refl}
use Rattle.std.proofs.lemmas.Bool.{le-leb, lt-leb}
use Rattle.sm4.specs.Standard.{encrypt, round_keys_of, cipher_of}
use Rattle.made_records.specs.Made.{keys, closed}
use Rattle.made_records.proofs.Closed.{record_closed}
use Rattle.made_records.proofs.close.Goals as goal

-- no room
pub returns-then-record-lt-IV_LEN : goal.returns-then-record-lt-IV_LEN
unfolding closed
returns-then-record-lt-IV_LEN c =
    let none : leb 16 (length c.args.record.now) ≡ false = lt-leb _ _ c.if-record-lt-IV_LEN.true in
    record { output = rw none refl }

-- the IV is laid there, and the rest enciphered
pub returns : goal.returns
unfolding closed cipher_of
returns c =
    let r = c.args.record.now in
    let room : leb 16 (length r) ≡ true = le-leb _ _ c.if-record-lt-IV_LEN.false in
    record {
      output =
          rw room
          (record_closed (encrypt (round_keys_of keys.enc_key)) r c.copy_at.new.out c.encipher_cbc.new.body
          c.if-record-lt-IV_LEN.false c.copy_at.ensures.output (rw (c.new.ensures, c.keys.ensures) at c.encipher_cbc.ensures.output));
    }
