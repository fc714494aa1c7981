-- What an opening says of itself that is not broken, and the work that it comes to next. Assumes nothing.
use mathlib.Core.Bool.{Bool, true, false, cond, not, ◌&&◌}
use mathlib.Core.Path.{◌≡◌, refl}
use Prim.Native.Nat.{ℕ, zero, suc, ◌+◌, ◌-◌, ◌≤◌, ◌<◌}
use native.Mathlib.Nat.{suc-ne-zero}
use native.Mathlib.Omega.{arith}
use borrow.Author.Tests.{ltb-true, ltb-false, leb-false, eqb-true, not-false, le-ltb, lt-ltb, eq-eqb, ne_eqb}
use lib.Dec.{eqb, leb, ltb}
use Rattle.answers.specs.Answers.{Done}
use Rattle.words.proofs.Tests.{neither}
use Rattle.sizes.specs.Sizes.{size_answer, allowed, blocks, mac_steps, total_steps}
use Rattle.sizes.proofs.Passed.{Allowed, allowed_facts, facts_allowed, passed}
use Rattle.steps.specs.declared.OpeningCbc.{OpeningCbc}
use Rattle.steps.specs.State.{start_answer}
use Rattle.steps.specs.Step.{broken}
use Rattle.steps.specs.declared.Work.{Work}
use Rattle.steps.specs.Work.{work_at}

-- an accepted start: the size is right, and the output has room for the body
pub start-passed : (r room : ℕ) → start_answer r room ≡ Done → (r ≡ r - 16 + 16) × Allowed (r - 16) × (r - 16 ≤ room)
unfolding start_answer
start-passed r room e = go (size_answer r) refl (ltb room (r - 16)) refl e
  where
    go : (a : ℕ) → size_answer r ≡ a → (b : Bool) → ltb room (r - 16) ≡ b → cond (eqb a 0) (cond b 2 0) a ≡ 0
        → (r ≡ r - 16 + 16) × Allowed (r - 16) × (r - 16 ≤ room)
    go zero f false g _ = ((passed r f).0, (passed r f).1, ltb-false room (r - 16) g)
    go zero f true g z = absurd (omega arith)
    go (suc a) f b g z = absurd (suc-ne-zero a (rw (ne_eqb (suc a) 0 (suc-ne-zero a)) at z))

-- a body that is allowed has room for a MAC and a length byte, and its length is small
pub allowed_least : (n : ℕ) → allowed n ≡ true → 33 ≤ n
allowed_least n e = omega (arith, (allowed_facts n e).least)

pub allowed_most : (n : ℕ) → allowed n ≡ true → n ≤ 16432
allowed_most n e = (allowed_facts n e).most

-- a record of a right size has an IV
pub has_iv : (r : ℕ) → size_answer r ≡ Done → 16 ≤ r
has_iv r e = omega (arith, (passed r e).0)

pub started_has_iv : (r room : ℕ) → start_answer r room ≡ Done → 16 ≤ r
started_has_iv r room e = omega (arith, (start-passed r room e).0)

-- the ranges of an opening, for a record of r bytes and so much room
pub record Sound (s : OpeningCbc) (r room : ℕ) : Type 0 where
  pub body : Allowed s.n
  pub steps : s.total ≡ total_steps s.n
  pub unfinished : (not s.ended && leb s.total s.done) ≡ false
  pub text : s.held ≤ s.n - 33
  pub whole : r ≡ s.n + 16
  pub fits : s.n ≤ room

-- an opening that is not broken is within them
pub sound : (s : OpeningCbc) (r room : ℕ) → broken s r room ≡ false → Sound s r room
unfolding broken
sound s r room e =
    let a = neither (not (allowed s.n)) _ e in
    let b = neither (not (eqb s.total (total_steps s.n))) _ a.1 in
    let c = neither (not s.ended && leb s.total s.done) _ b.1 in
    let d = neither (ltb (s.n - 33) s.held) _ c.1 in
    let f = neither (not (eqb r (s.n + 16))) _ d.1 in
    record {
      body = allowed_facts s.n (not-false (allowed s.n) a.0);
      steps = eqb-true s.total (total_steps s.n) (not-false _ b.0);
      unfinished = c.0;
      text = ltb-false (s.n - 33) s.held d.0;
      whole = eqb-true r (s.n + 16) (not-false _ f.0);
      fits = ltb-false room s.n f.1;
    }

-- and an opening within its ranges is not broken
pub unbroken : (s : OpeningCbc) (r room : ℕ) → Sound s r room → broken s r room ≡ false
unfolding broken
unbroken s r room g =
    rw (
      facts_allowed s.n g.body,
      eq-eqb s.total (total_steps s.n) g.steps,
      g.unfinished,
      le-ltb (s.n - 33) s.held g.text,
      eq-eqb r (s.n + 16) g.whole,
      le-ltb room s.n g.fits,
    )

-- not ended, it has a step left
pub one_more : (s : OpeningCbc) (r room : ℕ) → Sound s r room → s.ended ≡ false → s.done < s.total
one_more s r room g e = leb-false s.total s.done (rw e at g.unfinished)

-- ---- the work by the number of steps done

module _ (n k : ℕ) where
  -- steps 1 to m
  pub at-decipher : k < blocks n → work_at n k ≡ Work.Decipher k
  unfolding work_at
  at-decipher a = rw (lt-ltb _ _ a)

  -- and only those decipher
  pub decipher_below : (j : ℕ) → Work.Decipher j ≡ work_at n k → j < blocks n
  unfolding work_at
  decipher_below j e = by (ltb k (blocks n)) refl (eqb k (blocks n)) (ltb k (blocks n + 1 + mac_steps n)) (eqb k (blocks n + 1 + mac_steps n)) (eqb k (blocks n + 2 + mac_steps n)) e
    where
      by : (a : Bool) → ltb k (blocks n) ≡ a → (b c d f : Bool)
          → Work.Decipher j ≡ cond a (Work.Decipher k) (cond b Work.ReadPadding (cond c (Work.Inner (k - (blocks n + 1))) (cond d Work.OuterPad (cond f Work.OuterHash Work.Answering))))
          → j < blocks n
      by true f b c d g e = let h : j ≡ k = cc in omega (arith, h, ltb-true k (blocks n) f)
      by false f true c d g e = cc
      by false f false true d g e = cc
      by false f false false true g e = cc
      by false f false false false true e = cc
      by false f false false false false e = cc

  -- step m + 1
  pub at-padding : k ≡ blocks n → work_at n k ≡ Work.ReadPadding
  unfolding work_at
  at-padding a = rw (le-ltb k (blocks n) (omega arith), eq-eqb _ _ a)

  -- the next B
  pub at_inner : blocks n < k → k < blocks n + 1 + mac_steps n → work_at n k ≡ Work.Inner (k - (blocks n + 1))
  unfolding work_at
  at_inner a b = rw (le-ltb k (blocks n) (omega arith), ne_eqb k (blocks n) (λ e. omega arith), lt-ltb _ _ b)

  -- the outer hash's two
  pub at_outer_pad : k ≡ blocks n + 1 + mac_steps n → work_at n k ≡ Work.OuterPad
  unfolding work_at
  at_outer_pad a =
      rw (le-ltb k (blocks n) (omega arith), ne_eqb k (blocks n) (λ e. omega arith), le-ltb k (blocks n + 1 + mac_steps n) (omega arith), eq-eqb _ _ a)

  pub at_outer_hash : k ≡ blocks n + 2 + mac_steps n → work_at n k ≡ Work.OuterHash
  unfolding work_at
  at_outer_hash a =
      rw (
        le-ltb k (blocks n) (omega arith),
        ne_eqb k (blocks n) (λ e. omega arith),
        le-ltb k (blocks n + 1 + mac_steps n) (omega arith),
        ne_eqb k (blocks n + 1 + mac_steps n) (λ e. omega arith),
        eq-eqb _ _ a,
      )

  -- the last
  pub at-answering : blocks n + 2 + mac_steps n < k → work_at n k ≡ Work.Answering
  unfolding work_at
  at-answering a =
      rw (
        le-ltb k (blocks n) (omega arith),
        ne_eqb k (blocks n) (λ e. omega arith),
        le-ltb k (blocks n + 1 + mac_steps n) (omega arith),
        ne_eqb k (blocks n + 1 + mac_steps n) (λ e. omega arith),
        ne_eqb k (blocks n + 2 + mac_steps n) (λ e. omega arith),
      )
