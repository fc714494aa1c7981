-- `made_records::lay_body` meets its contract: a record with no room stays as found; else the MAC is
-- that of the head and the text, which stand in the record as one piece. Assumes nothing.
use Rattle.std.proofs.Common.{◌≡◌, ℕ, ◌+◌, ◌-◌, true, false, leb, length, add-one, refl, ◌∙◌, ap₂, arith}
use Rattle.std.proofs.lemmas.Bool.{le-leb, lt-leb}
use Rattle.words.specs.Lists.{put}
use Rattle.hmac.specs.State.{mac}
use Rattle.made_records.specs.Made.{headed, mac_of, padded, laid}
use Rattle.made_records.proofs.Covered.{covered}
use Rattle.made_records.proofs.lay_body.Goals as goal

-- no room
pub returns-then-record-end : goal.returns-then-record-end
unfolding laid
returns-then-record-end c =
    let none : leb (16 + c.args.len) (length c.args.record.now) ≡ false =
    lt-leb _ _ (omega (arith, c.from-end.ensures)) in
    record { output = rw none refl }

-- what each write leaves, the last first
pub returns : goal.returns
unfolding headed mac_of padded laid mac
returns c =
    let L : ℕ = c.args.len in
    let n : ℕ = length c.args.record.now in
    let room : leb (16 + L) n ≡ true = le-leb _ _ (omega (arith, c.from-end.ensures)) in
    let headed_lem : c.copy_at.new.out ≡ headed L n =
    c.copy_at.ensures.output ∙ ap₂ (put 3) c.record_header-header.ensures c.spread.ensures.output in
    let rest : 16 + L - 3 ≡ 13 + L = omega arith in
    let covered_lem = covered L n (omega (arith, c.from-end.ensures)) in
    let mac_lem : c.hmac_sm3-mac.result ≡ mac_of L =
    rw (c.hmac_sm3-mac.ensures, c.keys.ensures, headed_lem, c.from-end.ensures, rest, covered_lem) refl in
    record {
      output =
          rw (room, c.fill_at.ensures.output, c.copy_at-2.ensures.output, mac_lem, headed_lem)
          (rw (c.from-end.ensures, c.from.ensures, add-one) refl);
    }
