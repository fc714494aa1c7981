-- `border::noustrel_seal` meets its contract: 9 where a size is wrong, else `protect_cbc` of the keys, the version's bytes and
-- the IV that the slices hold. Assumes nothing.
use Rattle.std.proofs.Common.{sym, ap, ◌∙◌, arith}
use Rattle.words.proofs.Tests.{both}
use Rattle.record.specs.Sealing.{Sealed}
use Rattle.record.specs.Limits.{iv_len}
use Rattle.border.specs.Border.{key_sizes}
use Rattle.border.proofs.Results.{answered, length-or-none}
use Rattle.border.proofs.Sizes.{is_long, keys-long}
use Rattle.border.proofs.noustrel_seal.Goals as goal

pub returns-then-not-seal_sizes : goal.returns-then-not-seal_sizes
returns-then-not-seal_sizes c =
    let w = sym c.seal_sizes.ensures ∙ c.if-not-seal_sizes.true in
    record { result = rw (w, c.number.ensures); output = rw w; reported = rw w }

pub returns : goal.returns
returns c =
    let right = sym c.seal_sizes.ensures ∙ c.if-not-seal_sizes.false in
    let p = c.protect_cbc-sealed.ensures in
    record {
      result = rw right (c.number_of.ensures ∙ answered c.protect_cbc-sealed.result ∙ ap (λ (s : Sealed). s.answer) p.result);
      output = rw (right, p.output, c.keys_from-keys.ensures, c.u16_to_be_bytes-high_first.ensures, c.array.ensures);
      reported = rw right (c.unwrap_or.ensures ∙ length-or-none c.protect_cbc-sealed.result ∙ ap (λ (s : Sealed). s.length) p.result);
    }

pub keys_from-keys-requires : goal.keys_from-keys-requires
keys_from-keys-requires c =
    keys-long _ _ (both _ _ (sym c.seal_sizes.ensures ∙ c.if-not-seal_sizes.false)).0

pub array-requires : goal.array-requires
array-requires c =
    (omega arith, is_long iv_len _ (both (key_sizes c.args.mac_key.now c.args.enc_key.now) _ (sym c.seal_sizes.ensures ∙ c.if-not-seal_sizes.false)).1)
