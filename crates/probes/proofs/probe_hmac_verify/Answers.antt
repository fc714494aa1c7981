-- `probes::probe_hmac_verify` meets its contract: one update of a started MAC, cut nowhere, and its verdict as a number.
-- Assumes nothing.
use mathlib.Core.Bool.{true, ◌&&◌}
use mathlib.Core.List.{List}
use mathlib.Core.Path.{◌≡◌, refl, ap, ◌∙◌}
use Prim.Native.Nat.{ℕ}
use borrow.Author.Tests.{eq-eqb, ne_eqb}
use lib.Dec.{eqb}
use lib.ListN.{length}
use Rattle.answers.specs.Answers.{Done}
use Rattle.words.specs.Choice.{bit}
use Rattle.words.specs.Lists.{agree}
use Rattle.words.proofs.Choice.{bool_bit}
use Rattle.sm3.specs.State.{Digest}
use Rattle.hmac.specs.declared.HmacSm3.{HmacSm3}
use Rattle.hmac.specs.State.{Keyed, Verified, in_range, started, updated, verified, mac}
use Rattle.hmac.proofs.Mac.{uncut}
use Rattle.hmac.proofs.OneOutcome.{started-in_range, updated-in_range, update-ok, verify-ok}
use Rattle.probes.specs.Probes.{sized, verified_for}
use Rattle.probes.proofs.probe_hmac_verify.Goals as goal

pub returns-then-tag-ne-DIGEST_SIZE : goal.returns-then-tag-ne-DIGEST_SIZE
unfolding verified_for sized
returns-then-tag-ne-DIGEST_SIZE c =
    let tag : List ℕ = c.args.tag.now in
    rw (ne_eqb (length tag) 32 c.if-tag-ne-DIGEST_SIZE.true, c.number.ensures) refl

-- the state that has taken the message in
after : (K d : List ℕ) (m next : HmacSm3) → m ≡ (started K).mac → record { answer = Done; mac = next } ≡ updated m d
    → next ≡ (updated (started K).mac d).mac
after K d m next e f = ap (λ (x : Keyed). x.mac) f ∙ ap (λ (x : HmacSm3). (updated x d).mac) e

-- it is in range
fits : (K d : List ℕ) (m : HmacSm3) → m ≡ (updated (started K).mac d).mac → in_range m ≡ true
fits K d m e = rw e (updated-in_range (started K).mac d (started-in_range K))

-- a verdict on the MAC of the whole message
on_the_whole : (K m e : List ℕ) → (verified (updated (started K).mac m).mac e).matches ≡ agree (mac K m).bytes e
unfolding verified mac
on_the_whole K m e = ap (λ (d : Digest). eqb d.answer Done && agree d.bytes e) (uncut K m)

pub unwrap-taken-requires : goal.unwrap-taken-requires
unwrap-taken-requires c =
    let m = c.new.result in
    let k : in_range m ≡ true = rw c.new.ensures (started-in_range c.args.key.now) in
    rw (update-ok m c.args.message.now c.update.result k c.update.ensures) refl

pub unwrap-requires : goal.unwrap-requires
unwrap-requires c =
    let K = c.args.key.now in
    let d = c.args.message.now in
    let m = c.unwrap-taken.result in
    let t = after K d c.new.result m c.new.ensures (rw c.unwrap-taken.ensures at c.update.ensures) in
    rw (verify-ok m c.copy_from_slice.new.self c.verify.result (fits K d m t) c.verify.ensures) refl

pub returns : goal.returns
unfolding verified_for sized
returns c =
    let K = c.args.key.now in
    let d = c.args.message.now in
    let m = c.unwrap-taken.result in
    let t = after K d c.new.result m c.new.ensures (rw c.unwrap-taken.ensures at c.update.ensures) in
    let r = rw c.unwrap.ensures at c.verify.ensures
    ∙ ap (λ (x : HmacSm3). verified x c.copy_from_slice.new.self) t
    ∙ ap (verified (updated (started K).mac d).mac) c.copy_from_slice.ensures.after in
    rw (eq-eqb (length c.args.tag.now) 32 c.if-tag-ne-DIGEST_SIZE.false)
    (bool_bit c.unwrap.result ∙ ap (λ (y : Verified). bit y.matches) r ∙ ap bit (on_the_whole K d c.args.tag.now))
