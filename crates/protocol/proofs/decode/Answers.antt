-- `protocol::decode` meets its contract: a pair of digits is a byte. Assumes nothing.
use Rattle.std.proofs.Common.{◌≡◌, ℕ, ◌+◌, ◌*◌, ◌/◌, ◌<◌, List, length, drop, ◌++◌, ◌-◌, arith, length-drop, sym, ap, ap₂, ◌∙◌, refl}
use lib.Seq.{paste}
use Rattle.protocol.specs.Fields.{field_of, digit_of, decoded}
use Rattle.protocol.proofs.Bytes.{digit-small, length-decoded, decoded-at, pair-fits, pair-rest, pair-digit, laid_more, laid_all, laid_none}
use Rattle.protocol.proofs.decode.Goals as goal

pub returns-then-out-n : goal.returns-then-out-n
returns-then-out-n c =
    let a = c.args in
    let f : List ℕ = field_of a.k a.line.now in
    let n = ap length c.field-f.ensures in
    let t = laid_none a.out.now (decoded f) (omega (arith, length-decoded f)) in
    record { result = t.0; output = t.1 }

pub loop-i-init : goal.loop-i-init
loop-i-init c =
    let f : List ℕ = field_of c.args.k c.args.line.now in
    let none : c.into_iter-i-iterator.result.count ≡ 0 = cc in
    let whole : f ≡ c.into_iter-i-iterator.result.iter.rest.now = cc in
    let two : c.into_iter-i-iterator.result.iter.size ≡ 2 = cc in
    let long : length f ≡ length c.field-f.result.now = ap length (sym c.field-f.ensures) in
    record { by_two = two; left = rw none whole; inside = omega arith; room = omega arith; laid = rw none }

pub overflow_mul-out : goal.overflow_mul-out
overflow_mul-out c = omega (arith, digit-small _ _ c.digit-high.ensures)

pub overflow_add-out : goal.overflow_add-out
overflow_add-out c = omega (arith, digit-small _ _ c.digit-high.ensures, digit-small _ _ c.digit-low.ensures)

pub loop-i-preserved : goal.loop-i-preserved
loop-i-preserved c =
    let a = c.args in
    let f : List ℕ = field_of a.k a.line.now in
    let l = c.loop-i in
    let i : ℕ = l.i-iterator.count in
    let p : List ℕ = c.in-Some.pair.now in
    let next = c.in-Some.ensures.steps in
    let rest : drop (2 * i) f ≡ p ++ c.next.new.self.iter.rest.now = l.invariant.left ∙ next.0.1.0 in
    let pair : length p ≡ 2 = next.0.1.1 ∙ l.invariant.by_two in
    let fits = pair-fits f p _ i rest pair in
    let inside : i < length (decoded f) = omega (arith, length-decoded f) in
    let byte =
    ap₂ (λ (x y : ℕ). 16 * x + y) c.digit-high.ensures c.digit-low.ensures
    ∙ ap₂ (λ (x y : ℕ). 16 * digit_of x + digit_of y)
    (pair-digit f p _ i rest pair 0 (2 * i) (omega arith) (omega arith))
    (pair-digit f p _ i rest pair 1 (2 * i + 1) (omega arith) refl)
    ∙ sym (decoded-at f i inside) in
    record {
      by_two = next.0.0 ∙ l.invariant.by_two;
      left = rw next.2 (pair-rest f p _ i rest pair);
      inside = rw next.2 fits;
      room = l.invariant.room;
      laid = rw (next.1, next.2) (laid_more f _ _ i l.invariant.laid _ (omega (arith, l.invariant.room)) inside byte);
    }

pub returns : goal.returns
returns c =
    let a = c.args in
    let f : List ℕ = field_of a.k a.line.now in
    let l = c.loop-i in
    let i : ℕ = l.i-iterator.count in
    let long : length f ≡ length c.field-f.result.now = ap length (sym c.field-f.ensures) in
    let left : length f - 2 * i < 2 =
    omega (arith, c.in-None.ensures.steps.0.1.0, l.invariant.by_two, ap length l.invariant.left, length-drop (2 * i) f) in
    let all : i ≡ length c.field-f.result.now / 2 = omega (arith, l.invariant.inside) in
    let laid = l.invariant.laid ∙ ap (λ (j : ℕ). paste a.out.now 0 (decoded f) j) all in
    let t = laid_all a.out.now (decoded f) l.out _ (omega (arith, length-decoded f)) (omega (arith, l.invariant.room)) laid in
    record { result = t.0; output = t.1 }
