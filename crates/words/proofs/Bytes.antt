-- Laws of numbers as bytes, the highest first: `be` and `number` undo each other. Assumes nothing.
use Rattle.std.proofs.Common.{◌≡◌, ℕ, zero, suc, ◌+◌, ◌-◌, ◌*◌, ◌/◌, ◌%◌, ◌^◌, ◌<◌, List, [], ◌∷◌, ◌++◌, length, get_or, take, drop, replicate, sym, refl, ap, ap₂, ◌∙◌, append_assoc, append-nil, add-zero, add_assoc, add-suc, mod-lt, mod-eq_of_lt, zero-lt-suc, mul_assoc, add-mul, pow-suc, div-one, arith, length-append, get_or-drop, pow-add}
use native.Mathlib.Nat.{suc_inj, one-le-pow, pow-zero, pow-succ'}
use native.Mathlib.Nat.{div-div-eq-div-mul, mod-one}
use Rattle.std.specs.Int.{byte_at, byte_worth, bytes_high_first, sum_through}
use lib.Arith.{digits_lt, digits_div, digits_mod, mod-mul}
use Rattle.words.specs.Bytes.{be, number, Bytes}
use Rattle.words.specs.Lists.{join, xor_each}
use Rattle.words.proofs.Xor.{⊕-lt}

-- 0 is a byte
zero-byte : 0 < 256
zero-byte = zero-lt-suc 255

-- no power of 256 is 0
pow_pos : (n : ℕ) → 0 < 256 ^ n
pow_pos n = one-le-pow n 256 zero-byte

-- ---- lists of bytes

-- nothing
pub bytes-nil : Bytes []
bytes-nil i = zero-byte

-- a byte in front of bytes
pub bytes-cons : (x : ℕ) (l : List ℕ) → x < 256 → Bytes l → Bytes (x ∷ l)
bytes-cons x l h k zero = h
bytes-cons x l h k (suc i) = k i

-- bytes behind bytes
pub bytes-append : (a b : List ℕ) → Bytes a → Bytes b → Bytes (a ++ b)
bytes-append [] b ha hb i = hb i
bytes-append (x ∷ a) b ha hb zero = ha zero
bytes-append (x ∷ a) b ha hb (suc i) = bytes-append a b (λ j. ha (suc j)) hb i

-- the front of bytes
pub bytes_take : (n : ℕ) (l : List ℕ) → Bytes l → Bytes (take n l)
bytes_take zero l h i = zero-byte
bytes_take (suc n) [] h i = zero-byte
bytes_take (suc n) (x ∷ l) h zero = h zero
bytes_take (suc n) (x ∷ l) h (suc i) = bytes_take n l (λ j. h (suc j)) i

-- the end of bytes
pub bytes_drop : (n : ℕ) (l : List ℕ) → Bytes l → Bytes (drop n l)
bytes_drop n l h i = rw get_or-drop (h (n + i))

-- a run of one byte
pub bytes-replicate : (n x : ℕ) → x < 256 → Bytes (replicate n x)
bytes-replicate zero x h i = zero-byte
bytes-replicate (suc n) x h zero = h
bytes-replicate (suc n) x h (suc i) = bytes-replicate n x h i

-- pieces of bytes end to end
pub bytes_join : (m : ℕ) (f : ℕ → List ℕ) → ((k : ℕ) → k < m → Bytes (f k)) → Bytes (join m f)
unfolding join
bytes_join zero f h = bytes-nil
bytes_join (suc m) f h =
    bytes-append (join m f) (f m) (bytes_join m f (λ k b. h k (omega arith))) (h m (omega arith))

-- the exclusive or of bytes
pub bytes-xor_each : (a b : List ℕ) → Bytes a → Bytes b → Bytes (xor_each a b)
unfolding xor_each
bytes-xor_each [] b ha hb i = zero-byte
bytes-xor_each (x ∷ a) [] ha hb i = zero-byte
bytes-xor_each (x ∷ a) (y ∷ b) ha hb zero = ⊕-lt 8 (ha zero) (hb zero)
bytes-xor_each (x ∷ a) (y ∷ b) ha hb (suc i) = bytes-xor_each a b (λ j. ha (suc j)) (λ j. hb (suc j)) i

-- ---- a number to bytes

-- n bytes
pub length-be : (n x : ℕ) → length (be n x) ≡ n
unfolding be
length-be zero x = refl
length-be (suc n) x = length-append (be n (x / 256)) (x % 256 ∷ []) ∙ omega (arith, length-be n (x / 256))

-- each of them is a byte
pub bytes-be : (n x : ℕ) → Bytes (be n x)
unfolding be
bytes-be zero x = bytes-nil
bytes-be (suc n) x =
    bytes-append (be n (x / 256)) (x % 256 ∷ []) (bytes-be n (x / 256))
    (bytes-cons (x % 256) [] (mod-lt x zero-byte) bytes-nil)

-- the lowest n + 1 bytes: the lowest, and n of the rest
mod-bytes : (n x : ℕ) → x % 256 ^ suc n ≡ (x / 256 % 256 ^ n) * 256 + x % 256
mod-bytes n x = rw (pow-suc 256 n) (mod-mul x (pow_pos n) zero-byte)

-- only the lowest n bytes count
pub be_wrap : (n x : ℕ) → be n (x % 256 ^ n) ≡ be n x
unfolding be
be_wrap zero x = refl
be_wrap (suc n) x =
    let q = x / 256 % 256 ^ n in
    let low : x % 256 < 256 = mod-lt x zero-byte in
    rw (mod-bytes n x, digits_div q low, digits_mod q low, be_wrap n (x / 256))

-- eight bytes of a number that wrapped at 2^64
pub be_wrap_64 : (x : ℕ) → be 8 (x % 2 ^ 64) ≡ be 8 x
be_wrap_64 = be_wrap 8

-- the bytes in two parts
pub be-append : (m n x : ℕ) → be (m + n) x ≡ be m (x / 256 ^ n) ++ be n x
unfolding be
be-append m zero x = rw (add-zero m, pow-zero 256, div-one x) (sym (append-nil (be m x)))
be-append m (suc n) x =
    rw (add-suc m n, be-append m n (x / 256), div-div-eq-div-mul x 256 (256 ^ n), pow-succ' 256 n)
    (append_assoc (be m (x / (256 * 256 ^ n))) (be n (x / 256)) (x % 256 ∷ []))

-- byte n, counted from the lowest
byte-here : (n x : ℕ) → byte_at n x ≡ x / 256 ^ n % 256
byte-here zero x = rw (pow-zero 256, div-one x) refl
byte-here (suc n) x = refl

-- the library's bytes are these
pub high_first-be : (n x : ℕ) → bytes_high_first n x ≡ be n x
unfolding be
high_first-be zero x = refl
high_first-be (suc n) x =
    let e : 1 + n ≡ suc n = omega arith in
    ap₂ (λ (b : ℕ) (l : List ℕ). b ∷ l) (byte-here n x) (high_first-be n x) ∙ sym (be-append 1 n x) ∙ ap (λ (k : ℕ). be k x) e

-- ---- bytes to a number

-- bytes in two parts
pub number_append : (a b : List ℕ) → number (a ++ b) ≡ number a * 256 ^ length b + number b
unfolding number
number_append [] b = omega arith
number_append (x ∷ a) b =
    let p = 256 ^ length a in
    let q = 256 ^ length b in
    rw (length-append a b, pow-add 256 (length a) (length b), number_append a b)
    (rw (add-mul (x * p) (number a) q, mul_assoc x p q) (sym (add_assoc (x * (p * q)) (number a * q) (number b))))

-- n bytes stand for a number below 256^n
pub number_lt : (l : List ℕ) → Bytes l → number l < 256 ^ length l
unfolding number
number_lt [] h = zero-lt-suc 0
number_lt (x ∷ l) h = rw (pow-succ' 256 (length l)) (digits_lt (h 0) (number_lt l (λ i. h (suc i))))

-- the lowest n bytes of x stand for x modulo 256^n
pub number-be : (n x : ℕ) → number (be n x) ≡ x % 256 ^ n
unfolding be number
number-be zero x = sym (mod-one x)
number-be (suc n) x =
    number_append (be n (x / 256)) (x % 256 ∷ [])
    ∙ rw (number-be n (x / 256), mod-bytes n x) (omega arith)

-- bytes are those of the number that they stand for
pub be-number : (l : List ℕ) → Bytes l → be (length l) (number l) ≡ l
unfolding be number
be-number [] h = refl
be-number (x ∷ l) h =
    let n = length l in
    let y = x * 256 ^ n + number l in
    let tail : Bytes l = λ i. h (suc i) in
    let low : number l < 256 ^ n = number_lt l tail in
    let e : suc n ≡ 1 + n = omega arith in
    ap (λ (k : ℕ). be k y) e
    ∙ be-append 1 n y
    ∙ rw (digits_div x low, mod-eq_of_lt (h 0), ← be_wrap n y, digits_mod x low, be-number l tail)

-- the first term of a sum, and the others
sum-first : (f : ℕ → ℕ) (n : ℕ) → sum_through f (suc n) ≡ f 0 + sum_through (λ i. f (suc i)) n
sum-first f zero = refl
sum-first f (suc n) = omega (arith, sum-first f n)

-- only the terms count
sum_ext : (f g : ℕ → ℕ) (n : ℕ) → ((i : ℕ) → f i ≡ g i) → sum_through f n ≡ sum_through g n
sum_ext f g zero h = h 0
sum_ext f g (suc n) h = ap₂ (λ (a b : ℕ). a + b) (sum_ext f g n h) (h (suc n))

-- what a byte is worth
worth : (k m x : ℕ) → k ≡ m → byte_worth k x ≡ x * 256 ^ m
worth zero m x e = rw (← e, pow-zero 256) (omega arith)
worth (suc k) m x e = rw (← e)

-- the library's sum is this number
pub sum-number : (n : ℕ) (l : List ℕ) → length l ≡ suc n → sum_through (λ i. byte_worth (n - i) (get_or l i 0)) n ≡ number l
unfolding number
sum-number n [] e = cc
sum-number zero (x ∷ []) e = omega arith
sum-number zero (x ∷ y ∷ l) e = cc
sum-number (suc n) (x ∷ l) e =
    let k : suc n - 0 ≡ length l = omega arith in
    let f : ℕ → ℕ = λ i. byte_worth (suc n - i) (get_or (x ∷ l) i 0) in
    let g : ℕ → ℕ = λ i. byte_worth (n - i) (get_or l i 0) in
    sum-first f n
    ∙ ap₂ (λ (a b : ℕ). a + b) (worth (suc n - 0) (length l) x k)
    (sum_ext (λ i. f (suc i)) g n (λ i. ap (λ (m : ℕ). byte_worth m (get_or l i 0)) (omega arith)) ∙ sum-number n l (suc_inj e))
