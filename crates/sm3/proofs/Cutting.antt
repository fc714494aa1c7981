-- However a message is cut into updates, its digest is that of the whole. Assumes nothing.
use Rattle.std.proofs.Common.{◌≡◌, ℕ, ◌+◌, ◌%◌, ◌^◌, ◌<◌, ◌≤◌, Bool, true, false, cond, ◌&&◌, ltb, leb, List, [], ◌∷◌, ◌++◌, length, take, drop, sym, refl, ap, ◌∙◌, ap₂, append_assoc, append-nil, arith, length-append, length-drop, length-take-le, take_at, leb-true}
use Rattle.sm3.specs.declared.Sm3.{Sm3}
use Rattle.sm3.specs.Cutting.{joined, fed}
use Rattle.sm3.specs.Standard.{IV, zeros, ending, iteration, iterated, bytes_of}
use Rattle.sm3.specs.State.{fresh, rest, over, absorbed, pending, base, taken, updated, finalized, hashed}
use Rattle.sm3.proofs.Ending.{digested}
use Rattle.sm3.proofs.Iteration.{iteration-more, rest_more, length_rest}
use Rattle.sm3.proofs.Taken.{update_takes, taken-fits}

-- the first bytes of what is laid over the front
pub take-over : (x b : List ℕ) (n : ℕ) → length x ≡ n → take n (over x b) ≡ x
unfolding over
take-over x b n e = take_at x (drop (length x) b) n e

-- the length stays
length_over : (x b : List ℕ) → length x ≤ length b → length (over x b) ≡ length b
unfolding over
length_over x b h = length-append x (drop (length x) b) ∙ rw (length-drop (length x) b) (omega arith)

-- what the rest is laid over is a whole buffer
length-base : (h : Sm3) (s : List ℕ) → length h.buffer ≡ 64 → length (base h s) ≡ 64
unfolding base
length-base h s e = by (ltb 0 h.buffer_len) (leb 64 (length s)) refl
  where
    by : (p q : Bool) → leb 64 (length s) ≡ q → length (cond (p && q) (take 64 s) h.buffer) ≡ 64
    by true true k = length-take-le 64 s (leb-true 64 (length s) k)
    by true false k = e
    by false q k = e

-- the state h has taken in the message m, from a fresh one and however it was cut
record Holds (h : Sm3) (m : List ℕ) : Type 0 where
  size : length h.buffer ≡ 64
  words : h.state ≡ iteration IV m
  waiting : take h.buffer_len h.buffer ≡ rest m
  fill : h.buffer_len ≡ length m % 64
  total : h.total_len ≡ length m % 2 ^ 64

-- a fresh state has taken in nothing
fresh_holds : Holds fresh []
unfolding fresh rest iteration iterated
fresh_holds = record { size = refl; words = refl; waiting = refl; fill = refl; total = refl }

module _ (h : Sm3) (m d : List ℕ) (k : Holds h m) where
  -- what is pending is what the whole blocks of m left, and d
  pending-rest : pending h d ≡ rest m ++ d
  unfolding pending
  pending-rest = ap (λ (r : List ℕ). r ++ d) k.waiting

  -- so many bytes
  length-pending : length (pending h d) ≡ length m % 64 + length d
  length-pending = ap length pending-rest ∙ length-append (rest m) d ∙ ap (λ (n : ℕ). n + length d) (length_rest m)

  -- with d taken in it holds m and d
  taken-holds : Holds (taken h d) (m ++ d)
  unfolding taken absorbed
  taken-holds =
      let p = pending h d in
      let r : rest p ≡ rest (m ++ d) = ap rest pending-rest ∙ sym (rest_more m d) in
      let small : length (rest p) ≤ length (base h p) = omega (arith, length_rest p, length-base h p k.size) in
      record {
        size = length_over (rest p) (base h p) small ∙ length-base h p k.size;
        words = ap₂ iteration k.words pending-rest ∙ sym (iteration-more m d IV);
        waiting = take-over (rest p) (base h p) (length p % 64) (length_rest p) ∙ r;
        fill = omega (arith, length-pending, length-append m d);
        total = omega (arith, k.total, length-append m d);
      }

  -- its fill is in range
  holds_fits : h.buffer_len < 64
  holds_fits = omega (arith, k.fill)

-- one update more
updated-holds : (h : Sm3) (m d : List ℕ) → Holds h m → Holds (updated h d).hasher (m ++ d)
updated-holds h m d k = rw (update_takes h d (holds_fits h m d k)) (taken-holds h m d k)

-- any number of updates more
fed-holds : (h : Sm3) (m : List ℕ) (ds : List (List ℕ)) → Holds h m → Holds (fed h ds) (m ++ joined ds)
unfolding fed joined
fed-holds h m [] k = rw (append-nil m) k
fed-holds h m (d ∷ ds) k =
    rw (← append_assoc m d (joined ds)) (fed-holds (updated h d).hasher (m ++ d) ds (updated-holds h m d k))

-- the zeros go by the length modulo 64
ending-fill : (l t : ℕ) → ending (l % 64) t ≡ ending l t
unfolding ending zeros
ending-fill l t = let e : l % 64 % 64 ≡ l % 64 = omega arith in rw e

-- its digest is the hash of the message
holds_digest : (h : Sm3) (m : List ℕ) → Holds h m → finalized h ≡ hashed m
unfolding hashed
holds_digest h m k =
    let t = length m % 2 ^ 64 in
    let e : iteration IV (m ++ ending (length m) t) ≡ iteration h.state (pending h (ending h.buffer_len h.total_len)) =
    iteration-more m (ending (length m) t) IV
    ∙ ap₂ iteration (sym k.words)
    (ap (λ (r : List ℕ). rest m ++ r) (sym (ap₂ ending k.fill k.total ∙ ending-fill (length m) t))
    ∙ sym (pending-rest h m (ending h.buffer_len h.total_len) k)) in
    sym (digested h (bytes_of (iteration IV (m ++ ending (length m) t))) (holds_fits h m [] k) (ap bytes_of e))

-- every way of cutting a message into updates gives the hash of the whole message
pub cut : (ds : List (List ℕ)) → finalized (fed fresh ds) ≡ hashed (joined ds)
cut ds = holds_digest (fed fresh ds) (joined ds) (fed-holds fresh [] ds fresh_holds)

-- and so does no cut at all
pub uncut : (m : List ℕ) → finalized (updated fresh m).hasher ≡ hashed m
uncut m = holds_digest (updated fresh m).hasher m (updated-holds fresh [] m fresh_holds)

-- nor one by `taken`
pub whole : (m : List ℕ) → finalized (taken fresh m) ≡ hashed m
unfolding fresh
whole m = ap finalized (sym (update_takes fresh m (omega arith))) ∙ uncut m

-- ---- the same for a state by `taken`, as the MAC above has it

-- what updates leave is in range
pub fed-fits : (h : Sm3) (ds : List (List ℕ)) → h.buffer_len < 64 → (fed h ds).buffer_len < 64
unfolding fed
fed-fits h [] k = k
fed-fits h (d ∷ ds) k = fed-fits (updated h d).hasher ds (rw (update_takes h d k) (taken-fits h d))

-- a first part a, then any others
pub taken-cut : (a : List ℕ) (ds : List (List ℕ)) → finalized (fed (taken fresh a) ds) ≡ hashed (a ++ joined ds)
unfolding fed joined fresh
taken-cut a ds = ap (λ (h : Sm3). finalized (fed h ds)) (sym (update_takes fresh a (omega arith))) ∙ cut (a ∷ ds)

-- two parts
pub taken_twice : (a b : List ℕ) → finalized (taken (taken fresh a) b) ≡ hashed (a ++ b)
unfolding fed joined
taken_twice a b =
    ap finalized (sym (update_takes (taken fresh a) b (taken-fits fresh a)))
    ∙ taken-cut a (b ∷ [])
    ∙ ap (λ (l : List ℕ). hashed (a ++ l)) (append-nil b)
