-- `Expansion::p_sm3` meets its contract: what is written is the first block, cut where it is the last, and behind it the rest
-- from the next A on. Assumes nothing.
use Rattle.std.proofs.Common.{◌≡◌, ℕ, ◌-◌, List, ◌++◌, length, take, drop, ap, ◌∙◌}
use Rattle.words.specs.Lists.{put}
use Rattle.sm3.specs.Standard.{SM3}
use Rattle.hmac.specs.Rfc2104.{HMAC}
use Rattle.key_schedule.specs.Rest.{rest}
use Rattle.key_schedule.proofs.Turn.{written_last, written-more}
use Rattle.key_schedule.proofs.Expansion.+p_sm3.Goals as goal

pub returns-then-out-gt-DIGEST_SIZE : goal.returns-then-out-gt-DIGEST_SIZE
returns-then-out-gt-DIGEST_SIZE t c =
    let secret = c.args.self.now.secret.now in
    let seed = c.args.self.now.label.now ++ (c.args.self.now.first.now ++ c.args.self.now.second.now) in
    let found = c.args.out.now in
    let left = c.copy_at.new.out in
    let part = take (length left - 32) (drop 32 left) in
    let laid : left ≡ put 0 (HMAC SM3 secret (c.args.a ++ seed)) found =
    c.copy_at.ensures.output ∙ ap (λ (b : List ℕ). put 0 b found) c.mac-block.ensures in
    written-more secret seed c.args.a found left laid _ c.if-out-gt-DIGEST_SIZE.true
    (c.p_sm3.ensures ∙ ap (λ (a : List ℕ). rest (HMAC SM3) secret seed a (length part)) c.next_a-next.ensures)

pub returns-else-out-gt-DIGEST_SIZE : goal.returns-else-out-gt-DIGEST_SIZE
returns-else-out-gt-DIGEST_SIZE t c =
    let secret = c.args.self.now.secret.now in
    let seed = c.args.self.now.label.now ++ (c.args.self.now.first.now ++ c.args.self.now.second.now) in
    let found = c.args.out.now in
    let left = c.copy_at.new.out in
    let laid : left ≡ put 0 (HMAC SM3 secret (c.args.a ++ seed)) found =
    c.copy_at.ensures.output ∙ ap (λ (b : List ℕ). put 0 b found) c.mac-block.ensures in
    written_last secret seed c.args.a found left laid c.if-out-gt-DIGEST_SIZE.false
