-- The stand-ins among the steppers do not meet what is asked: two are refuted by opening one record into two outputs that differ in
-- one byte, one by its count after step 1, one by a record with bad padding beside one with a wrong MAC, one by the padding
-- mark in a report, one by a step too many, one by an opening that no start leads to. Assumes nothing.
use mathlib.Core.Bool.{Bool, true, false, cond, ◌&&◌}
use mathlib.Core.List.{List, ◌∷◌, ◌++◌}
use mathlib.Core.Path.{◌≡◌, refl, sym, ap, ap₂, ◌∙◌}
use Prim.Native.Nat.{ℕ, zero, suc, ◌-◌, ◌≤◌}
use native.Mathlib.Omega.{arith}
use lib.Dec.{eqb, lit≤, lit<}
use lib.ListN.{length, take, drop, replicate, get_or}
use lib.Seq.{take_at, drop_at, length-take-le}
use Rattle.answers.specs.Answers.{Done, BadRecord, TooBig}
use Rattle.words.specs.Bytes.{Bytes}
use Rattle.record.specs.Opened.{good_pad}
use Rattle.words.specs.Lists.{put}
use Rattle.sizes.specs.Sizes.{mac_steps, total_steps}
use Rattle.steps.specs.declared.OpeningCbc.{OpeningCbc}
use Rattle.steps.specs.declared.Stepped.{Stepped}
use Rattle.steps.specs.State.{zero_words, report, all_zero, started, begun}
use Rattle.steps.specs.Step.{output_by, stepped}
use Rattle.steps.specs.Work.{work_at}
use Rattle.opening.specs.declared.Opened.{Opened}
use Rattle.opening.specs.Closed.{running, report_after, written, out_after}
use Rattle.opening.specs.Deprotected.{body_after, output_of}
use Rattle.opening.specs.Given.{Given, size, decrypted, accepted, answer_in}
use Rattle.opening.proofs.Closed.{goes_on}
use Rattle.opening.proofs.Fields.{mark_read}
use Rattle.opening.proofs.Fits.{fits, length-decrypted}
use Rattle.opening.proofs.Output.{out_before}
use Rattle.opening.proofs.Turn.{report_before, report-end}
use Rattle.demands.specs.StandIns.{writes_nothing, rushes, own_count, tells_apart, tells_early, strays, revives}
use Rattle.demands.specs.Steppers.{Stepper, ours, after_by, Passes, Pair, SameReports, SameCount, WorkAsDefined, RefusalsAlike, StepsTooMany, EveryStep}
use Rattle.demands.proofs.BadRecords.{length-zeros, holding, decrypted-holding, length-holding, checks-holding, bad_padding, length-bad, bytes-bad, not_good_lem, bad-refused, bad_mac, length-mac, bytes-mac, good-mac, mac-refused}
use Rattle.demands.proofs.Checks.{passes-checks}
use Rattle.demands.proofs.Demand3.{same_count}
use Rattle.demands.proofs.Reached.{T, as_defined, same_size}

-- ---- a record that passes the checks

-- keys, header and 64 record bytes, all zero
abbrev zeros : Given
zeros =
    record {
      keys = record { mac_key = replicate 32 0; enc_key = replicate 16 0 };
      seq = 0;
      type = 0;
      version = replicate 2 0;
      r = replicate 64 0;
    }

-- outputs of 48 bytes: all zero, or zero but for one byte
abbrev blank : List ℕ
blank = replicate 48 0

abbrev marked : ℕ → List ℕ
marked i = replicate i 0 ++ (1 ∷ replicate (47 - i) 0)

-- they pass
passes : (o : List ℕ) → length o ≡ 48 → Passes zeros o
passes o e = record { version = refl; checks = record { least = lit≤ tt; whole = refl; most = lit≤ tt; fits = omega (arith, e) } }

-- ---- after step 1

module _ (g : Given) (o : List ℕ) (p : Passes g o) where
  -- block 1 is deciphered, and the rest is as found
  out_one : out_after g o 1 ≡ take 16 (decrypted g) ++ drop 16 o
  unfolding written total_steps
  out_one =
      let f = fits g o p.version (passes-checks p.checks) in
      let n : written g 1 ≡ 16 = omega (arith, f.body.least) in
      out_before g o 1 (omega arith) ∙ ap (λ (i : ℕ). take i (decrypted g) ++ drop i o) n

  -- which is 16 bytes long
  length-one : length (take 16 (decrypted g)) ≡ 16
  length-one =
      let f = fits g o p.version (passes-checks p.checks) in
      length-take-le 16 (decrypted g) (omega (arith, length-decrypted g f, f.body.least))

  -- as any stepper that does the work as defined leaves it
  worked : (S : Stepper) → WorkAsDefined S → (after_by S g o 1).1 ≡ take 16 (decrypted g) ++ drop 16 o
  unfolding WorkAsDefined total_steps
  worked S w = ap (λ (y : Stepped × List ℕ). y.1) (w g o p 1 (omega arith)) ∙ out_one

-- ---- a step that writes nothing

-- the output's front would be the decryption's
front : WorkAsDefined writes_nothing → (o : List ℕ) → length o ≡ 48 → take 16 o ≡ take 16 (decrypted zeros)
unfolding after_by
front w o e =
    let p = passes o e in
    ap (take 16) (worked zeros o p writes_nothing w) ∙ take_at (take 16 (decrypted zeros)) (drop 16 o) 16 (length-one zeros o p)

-- WRITES NOTHING. So it would be the front of both outputs.
pub writes_nothing_fails : WorkAsDefined writes_nothing → ⊥
writes_nothing_fails w =
    let e : take 16 blank ≡ take 16 (marked 0) = front w blank refl ∙ sym (front w (marked 0) refl) in
    omega (arith, ap (λ (l : List ℕ). get_or l 0 0) e)

-- ---- all work in step 1

-- the output after step 1 is that of the one call
rushed : (g : Given) (o : List ℕ) → Passes g o → (after_by rushes g o 1).1 ≡ output_of g o
unfolding after_by started begun
rushed g o p = rw (passes-checks p.checks)

-- so what stands behind the first block would not depend on what stood there
behind : WorkAsDefined rushes → (o : List ℕ) → length o ≡ 48 → take 16 (decrypted zeros) ++ drop 16 o ≡ body_after zeros ++ drop (size zeros) o
unfolding output_of
behind w o e =
    let p = passes o e in
    sym (worked zeros o p rushes w) ∙ rushed zeros o p ∙ rw (passes-checks p.checks)

-- ALL IN STEP 1. But it stays as found, in both outputs.
pub rushes_fails : WorkAsDefined rushes → ⊥
unfolding size
rushes_fails w =
    let d = take 16 (decrypted zeros) in
    let e : d ++ drop 16 blank ≡ d ++ drop 16 (marked 16) = behind w blank refl ∙ sym (behind w (marked 16) refl) in
    let n = length-one zeros blank (passes blank refl) in
    let c : drop 16 blank ≡ drop 16 (marked 16) = sym (drop_at d (drop 16 blank) 16 n) ∙ ap (drop 16) e ∙ drop_at d (drop 16 (marked 16)) 16 n in
    omega (arith, ap (λ (l : List ℕ). get_or l 0 0) c)

-- ---- a count of its own making

-- ITS OWN COUNT. Step 1 would be counted as two.
pub own_count_fails : SameCount own_count → ⊥
unfolding SameCount after_by total_steps
own_count_fails s =
    let p = passes blank refl in
    omega (arith, (s zeros blank p).count 1 (omega arith), (same_count zeros blank p).count 1 (omega arith))

-- ---- a padding oracle

-- all but the answer
abbrev rest : Stepped × List ℕ → Stepped × List ℕ
rest y = (report y.0.opening Done y.0.length y.0.count, y.1)

-- is ours after every number of steps
rest-ours : (g : Given) (o : List ℕ) (k : ℕ) → rest (after_by tells_apart g o k) ≡ rest (after_by ours g o k)
unfolding after_by
rest-ours g o zero = refl
rest-ours g o (suc k) = ap (λ (y : Stepped × List ℕ). rest (ours.step y.0.opening g.r y.1)) (rest-ours g o k)

-- what it makes of the padding mark and of our answer
abbrev telling : Bool → ℕ → ℕ
telling mark answer = cond (eqb answer BadRecord) (cond mark BadRecord TooBig) answer

module _ (g : Given) (o : List ℕ) (p : Passes g o) where
  -- before the last step the mark says whether the padding is good
  mark-last : (report_after g (T g - 1)).opening.pad_ok ≡ good_pad (decrypted g)
  unfolding total_steps running
  mark-last = rw (report_before g (T g - 1) (omega arith)) (mark_read g (T g - 1) (omega arith))

  -- and the last step of ours answers by the verdict
  answer_last : (stepped (report_after g (T g - 1)).opening g.r (out_after g o (T g - 1))).answer ≡ answer_in g
  unfolding total_steps
  answer_last =
      let n : suc (T g - 1) ≡ T g = omega arith in
      let f = fits g o p.version (passes-checks p.checks) in
      ap (λ (s : Stepped). s.answer) ((goes_on g f (T g - 1) (omega arith)).0 ∙ ap (report_after g) n ∙ report-end g)

  -- so a refused record is told by its padding
  tells : accepted g ≡ false → (after_by tells_apart g o (T g)).0.answer ≡ cond (good_pad (decrypted g)) BadRecord TooBig
  unfolding total_steps answer_in after_by
  tells refused =
      let n : T g ≡ suc (T g - 1) = omega arith in
      let six : answer_in g ≡ BadRecord = rw refused in
      ap (λ (k : ℕ). (after_by tells_apart g o k).0.answer) n
      ∙ ap (λ (y : Stepped × List ℕ). telling y.0.opening.pad_ok (stepped y.0.opening g.r y.1).answer)
      (rest-ours g o (T g - 1) ∙ ap rest (as_defined g o p (T g - 1) (omega arith)))
      ∙ ap₂ telling mark-last (answer_last ∙ six)

-- a record that deciphers to 48 bytes, opened into as many zeros
passes-holding : (d : List ℕ) → Bytes d → length d ≡ 48 → Passes (holding d) blank
passes-holding d bytes long =
    record { version = length-zeros 2; checks = checks-holding d bytes long blank (lit≤ tt) }

-- the two bad records are of equal length
bad-pair : Passes (holding bad_padding) blank → Passes (holding bad_mac) blank → Pair (holding bad_padding) (holding bad_mac) blank blank
bad-pair p q =
    record {
      equal = length-holding bad_padding bytes-bad length-bad ∙ sym (length-holding bad_mac bytes-mac length-mac);
      first = p;
      second = q;
    }

-- TELLS APART. Bad padding would be answered as a wrong MAC is.
pub tells_apart_fails : RefusalsAlike tells_apart → ⊥
unfolding RefusalsAlike
tells_apart_fails alike =
    let p = passes-holding bad_padding bytes-bad length-bad in
    let q = passes-holding bad_mac bytes-mac length-mac in
    let five : (after_by tells_apart (holding bad_padding) blank (T (holding bad_padding))).0.answer ≡ TooBig =
    tells (holding bad_padding) blank p bad-refused
    ∙ ap (λ (t : Bool). cond t BadRecord TooBig) (ap good_pad (decrypted-holding bad_padding bytes-bad length-bad) ∙ not_good_lem) in
    let six : (after_by tells_apart (holding bad_mac) blank (T (holding bad_mac))).0.answer ≡ BadRecord =
    tells (holding bad_mac) blank q mac-refused
    ∙ ap (λ (t : Bool). cond t BadRecord TooBig) (ap good_pad (decrypted-holding bad_mac bytes-mac length-mac) ∙ good-mac) in
    let same = alike (holding bad_padding) (holding bad_mac) blank blank (bad-pair p q) (λ e. omega (arith, e, five)) (λ e. omega (arith, e, six)) in
    omega (arith, five, six, ap (λ (s : Stepped). s.answer) same.0)

-- ---- a mark shown early

-- what it makes of our report
abbrev early : Stepped → Stepped
early t = report t.opening t.answer (cond (t.opening.pad_ok && eqb t.answer Done) 1 t.length) t.count

-- after a step it is ours with that report
early-ours : (g : Given) (o : List ℕ) (k : ℕ)
    → after_by tells_early g o (suc k) ≡ (early (after_by ours g o (suc k)).0, (after_by ours g o (suc k)).1)
unfolding after_by
early-ours g o zero = refl
early-ours g o (suc k) = ap (λ (y : Stepped × List ℕ). tells_early.step y.0.opening g.r y.1) (early-ours g o k)

-- so before the last step the length tells the mark
early-length : (g : Given) (o : List ℕ) (p : Passes g o) → (after_by tells_early g o (T g - 1)).0.length ≡ cond (good_pad (decrypted g)) 1 0
unfolding total_steps running
early-length g o p =
    let n : T g - 1 ≡ suc (T g - 2) = omega arith in
    let e : (after_by ours g o (T g - 1)).0 ≡ report (running g (T g - 1)) Done 0 (T g - 1) =
    ap (λ (y : Stepped × List ℕ). y.0) (as_defined g o p (T g - 1) (omega arith)) ∙ report_before g (T g - 1) (omega arith) in
    ap (λ (k : ℕ). (after_by tells_early g o k).0.length) n
    ∙ ap (λ (y : Stepped × List ℕ). y.0.length) (early-ours g o (T g - 2))
    ∙ ap (λ (k : ℕ). (early (after_by ours g o k).0).length) (sym n)
    ∙ ap (λ (s : Stepped). (early s).length) e
    ∙ rw (mark_read g (T g - 1) (omega arith)) (by (good_pad (decrypted g)))
  where
    by : (t : Bool) → ◌≡◌ {A = ℕ} (cond (t && true) 1 0) (cond t 1 0)
    by true = refl
    by false = refl

-- TELLS EARLY. Bad padding and good padding would be reported alike.
pub tells_early_fails : SameReports tells_early → ⊥
unfolding SameReports total_steps
tells_early_fails same =
    let p = passes-holding bad_padding bytes-bad length-bad in
    let q = passes-holding bad_mac bytes-mac length-mac in
    let k = T (holding bad_padding) - 1 in
    let n = same_size (holding bad_padding) (holding bad_mac) blank blank (bad-pair p q) in
    let e = ap (λ (x : Opened). x.length) (same (holding bad_padding) (holding bad_mac) blank blank (bad-pair p q) k (omega arith)) in
    let none : (after_by tells_early (holding bad_padding) blank k).0.length ≡ 0 =
    early-length (holding bad_padding) blank p
    ∙ ap (λ (t : Bool). cond t 1 0) (ap good_pad (decrypted-holding bad_padding bytes-bad length-bad) ∙ not_good_lem) in
    let one : (after_by tells_early (holding bad_mac) blank k).0.length ≡ 1 =
    ap (λ (m : ℕ). (after_by tells_early (holding bad_mac) blank (total_steps m - 1)).0.length) n
    ∙ early-length (holding bad_mac) blank q
    ∙ ap (λ (t : Bool). cond t 1 0) (ap good_pad (decrypted-holding bad_mac bytes-mac length-mac) ∙ good-mac) in
    omega (arith, e, none, one)

-- ---- an opening that no start leads to

-- in its ranges, its padding not yet read, and with an answer in it
abbrev astray : OpeningCbc
astray =
    record {
      words = zero_words;
      kept = zero_words;
      mac_key = replicate 32 0;
      enc_key = replicate 16 1;
      seq = 0;
      content_type = 0;
      version = replicate 2 0;
      n = 48;
      total = 8;
      done = 3;
      held = 0;
      pad_ok = false;
      ended = false;
      answer = 1;
    }

-- STRAYS. The step that reads the padding would leave the output as found.
pub strays_fails : EveryStep strays → ⊥
unfolding EveryStep total_steps mac_steps work_at output_by put
strays_fails every =
    let e = (every astray (replicate 64 0) blank).works
    (record {
      least = lit≤ tt;
      most = lit≤ tt;
      whole = refl;
      steps = refl;
      unfinished = λ _. lit< tt;
      text = lit≤ tt;
      sized = refl;
      fits = lit≤ tt;
    })
    refl in
    let byte : ◌≡◌ {A = ℕ} 1 0 = ap (λ (y : Stepped × List ℕ). get_or y.1 0 0) e in
    omega arith

-- ---- an ended opening

-- up to step T it is ours
upto : (g : Given) (o : List ℕ) → Passes g o → (k : ℕ) → k ≤ T g → after_by revives g o k ≡ after_by ours g o k
unfolding after_by SameCount
upto g o p zero h = refl
upto g o p (suc k) h =
    ap (λ (y : Stepped × List ℕ). revives.step y.0.opening g.r y.1) (upto g o p k (omega arith))
    ∙ ap (λ (t : Bool). cond {A = Stepped × List ℕ} t (report all_zero Done 0 0, g.r) (after_by ours g o (suc k)))
    ((same_count g o p).not_before k (omega arith))

-- REVIVES. The step after it would be answered 8.
pub revives_fails : StepsTooMany revives → ⊥
unfolding StepsTooMany after_by SameCount
revives_fails many =
    let p = passes blank refl in
    let e = ap (λ (y : Stepped × List ℕ). y.0.answer) (many zeros blank p (suc (T zeros)) (omega arith)) in
    let again : after_by revives zeros blank (suc (T zeros)) ≡ (report all_zero Done 0 0, zeros.r) =
    ap (λ (y : Stepped × List ℕ). revives.step y.0.opening zeros.r y.1) (upto zeros blank p (T zeros) (omega arith))
    ∙ ap (λ (t : Bool). cond {A = Stepped × List ℕ} t (report all_zero Done 0 0, zeros.r) (after_by ours zeros blank (suc (T zeros))))
    (same_count zeros blank p).ends in
    omega (arith, e, ap (λ (y : Stepped × List ℕ). y.0.answer) again)
