-- A sheet: its report, for every byte string, and every byte of the lent output. Assumes nothing.
use Rattle.refusal.specs.Refused as refusal
use Rattle.std.specs.Prelude.{Float, Some, None, Ok, Err, Option}
use Prim.Native.Nat.{ℕ, zero, suc, ◌+◌, ◌-◌, ◌*◌, ◌^◌, ◌≤◌, ◌<◌}
use mathlib.Core.Path.{◌≡◌, refl, sym, ap, subst, ◌∙◌}
use mathlib.Core.Bool.{true}
use mathlib.Core.List.{List, [], ◌∷◌, ◌++◌, map}
use native.Mathlib.Nat.{le_of_suc-le-suc}
use native.Mathlib.Omega.{arith}
use contract.Lifetimes.{Lfts}
use lib.Dec.{leb, ltb, eqb}
use Rattle.num_working.proofs.Cases.{by_test}
use Rattle.door_limits.specs.declared.Limits.{Limits}
use lib.ListN.{length, drop, get_or, length-map}
use lib.Seq.{get_or-append-add, get_or-drop}
use borrow.Author.Tests.{eqb-true, eqb-false, ltb-true, ltb-false, leb-true, leb-false, ne_eqb, lt-ltb, le-ltb, le-leb, lt-leb}
use Rattle.sheet_text.specs.Field.{Field}
use Rattle.sheet_mass.specs.Mass.{as_milligrams}
use Rattle.sheet_mass.specs.declared.Milligrams.{Milligrams}
use Rattle.sheet_line.specs.Line.{line_of, blank_line}
use Rattle.sheet_line.specs.declared.cylinder.Cylinder.{Cylinder}
use Rattle.sheet_line.specs.declared.line.Line.{Line}
use Rattle.sheet_read.specs.Form.{Bank, in_form}
use Rattle.sheet_weigh.specs.Weighing.{weighed}
use Rattle.sheet_weigh.specs.Sheet.{marked}
use Rattle.sheet_weigh.proofs.Markings.{marked_length}
use Rattle.sheet_weigh.proofs.Weights.{Under, weighed_under}
use Rattle.sheet_write.specs.Writing.{overlaid}
use Rattle.sheet_write.proofs.Writings.{long}
use Rattle.sheet_report.specs.Report.{lines_bytes, ending_bytes, ReportIs, Written}
use Rattle.sheet_outcome.specs.Outcome.{Weighed, is_need, needed, admitted, plus, total, ending, Summed, Admitted}
use Rattle.sheet_score.specs.Score.{sent_back, listed, report}
use Rattle.sheet_outcome.specs.declared.Ending.{Ending}
use Rattle.sheet_score.proofs.score.Reads as score
use Rattle.demands.specs.Demands.{Exactly}
use Rattle.demands.proofs.Ranges.{Outside, below_one, above_top, inside, outside, is_inside, is_outside}
use Rattle.demands.specs.Sheets as sheets
use Rattle.demands.specs.Sheets.{lines, OneRefused, here, there, AllWeighed, none_left, one_more, sum, NoNeed, no_agent, too_much, Lined, Needs, Reported, not_in_form, no_lines, many_lines, no_need, one_refused, named_twice, covered, short, Delivered, fits, too_long, Delivers}
use Rattle.demands.specs.Twice.{at, Twice, no_mark, RefusesAt, lacks, is_again, alone, marked_before}
use Rattle.demands.proofs.Lines.{dash_refused, line_refusals}
use Rattle.demands.proofs.Twice.{no_mass, line_at, SomeRefused, some_alone, some_twice, refusals_at, marked_as_before}

-- ---- the total of marks: refused where one of them is, and else the sum of their milligrams

abbrev massed : List ℕ → List Weighed
massed mgs = map (λ (mg : ℕ). Ok (as_milligrams mg)) mgs

pub data Tally (ms : List Weighed) : Summed → Type 0 where
  refused : (i n : ℕ) → i < length ms → get_or ms i no_mark ≡ refusal.refused n → Tally ms None
  summed : (mgs : List ℕ) → ms ≡ massed mgs → Tally ms (Some (as_milligrams (sum mgs)))

one_mark : (m : Weighed) (ms : List Weighed) (t : Summed) → Tally ms t → Tally (m ∷ ms) (plus m t)
one_mark (Err n) ms t r = refused 0 n.0 (omega arith) refl
one_mark (Ok mg) ms t (refused i n h r) = refused (suc i) n (omega arith) r
one_mark (Ok mg) ms t (summed mgs a) = summed (mg.0 ∷ mgs) (ap (λ (l : List Weighed). Ok mg ∷ l) a)

pub tally : (ms : List Weighed) → Tally ms (total ms)
unfolding total
tally [] = summed [] refl
tally (m ∷ ms) = one_mark m ms (total ms) (tally ms)

pub refused_total : (ms : List Weighed) (i n : ℕ) → i < length ms → get_or ms i no_mark ≡ refusal.refused n → total ms ≡ None
unfolding total
refused_total [] i n h e = absurd (omega arith)
refused_total (m ∷ ms) zero n h e = rw e
refused_total (m ∷ ms) (suc i) n h e = rw (refused_total ms i n (le_of_suc-le-suc h) e) (any m)
  where
    any : (w : Weighed) → plus w None ≡ None
    any (Ok mg) = refl
    any (Err k) = refl

-- none of these is refused
mass_at : (mgs : List ℕ) (i n : ℕ) → i < length mgs → get_or (massed mgs) i no_mark ≡ refusal.refused n → ⊥
mass_at [] i n h e = omega arith
mass_at (mg ∷ mgs) zero n h e = no_mass (sym e)
mass_at (mg ∷ mgs) (suc i) n h e = mass_at mgs i n (le_of_suc-le-suc h) e

-- ---- the total of a sheet's lines

module _ (L : Limits) where
  -- a line that is refused by itself, by its place
  pub record RefusedAlone (ls : List (Line Float)) : Type 0 where
    pub place : ℕ
    pub number : ℕ
    pub within : place < length ls
    pub refused : weighed L (get_or ls place blank_line) ≡ refusal.refused number

  placed : {ls : List (Line Float)} → OneRefused L ls → RefusedAlone ls
  placed (here {l} {ls} {n} e) = record { place = 0; number = n; within = omega arith; refused = e }
  placed (there r) = let p = placed r in record { place = suc p.place; number = p.number; within = omega (arith, p.within); refused = p.refused }

  at_place : (ls : List (Line Float)) (i n : ℕ) → i < length ls → weighed L (get_or ls i blank_line) ≡ refusal.refused n → OneRefused L ls
  at_place [] i n h e = absurd (omega arith)
  at_place (l ∷ ls) zero n h e = here e
  at_place (l ∷ ls) (suc i) n h e = there (at_place ls i n (le_of_suc-le-suc h) e)

  all_weighed : (ls : List (Line Float)) (mgs : List ℕ) → marked_before L ls ≡ massed mgs → AllWeighed L ls mgs
  all_weighed [] [] e = none_left
  all_weighed [] (mg ∷ mgs) e = let z : 0 ≡ suc (length (massed mgs)) = ap length e in absurd (omega arith)
  all_weighed (l ∷ ls) [] e = let z : suc (length (marked_before L ls)) ≡ 0 = ap length e in absurd (omega arith)
  all_weighed (l ∷ ls) (mg ∷ mgs) e = one_more (ap (λ (ms : List Weighed). get_or ms 0 no_mark) e) (all_weighed ls mgs (ap (drop 1) e))

  weighed_total : {ls : List (Line Float)} {mgs : List ℕ} → AllWeighed L ls mgs → total (marked_before L ls) ≡ Some (as_milligrams (sum mgs))
  unfolding total
  weighed_total none_left = refl
  weighed_total (one_more e a) = rw (e, weighed_total a)

  module _ (cs : List Cylinder) where
    abbrev marks : List Weighed
    marks = marked L (map line_of cs)

    pub marks_many : length marks ≡ length cs
    marks_many = marked_length L (map line_of cs) ∙ length-map cs line_of

    some_total : SomeRefused L cs → total marks ≡ None
    some_total r = refused_total marks r.place r.number (omega (arith, r.within, marks_many)) r.refused

    one_total : OneRefused L (map line_of cs) → total marks ≡ None
    one_total r =
        let p = placed r in
        some_total (some_alone L cs p.place p.number (omega (arith, p.within, length-map cs line_of)) (rw (← line_at cs p.place) p.refused))

    -- A SHEET THAT NAMES A NUMBER TWICE HAS NO TOTAL, and one that has a total names none twice
    pub twice_total : Twice cs → total marks ≡ None
    twice_total t = some_total (some_twice L cs t)

    pub total_once : (mg : Milligrams) → total marks ≡ Some mg → Twice cs → ⊥
    total_once mg e t = let f = twice_total t in let z : ◌≡◌ {A = ℕ} 0 1 = cc in omega arith

    once_total : {mgs : List ℕ} → (Twice cs → ⊥) → AllWeighed L (map line_of cs) mgs → total marks ≡ Some (as_milligrams (sum mgs))
    once_total once a = ap total (marked_as_before L cs once) ∙ weighed_total a

    -- no mark is refused: so no number stands twice, and each line is answered by itself
    none_twice : (mgs : List ℕ) → marks ≡ massed mgs → Twice cs → ⊥
    none_twice mgs a t =
        let r = some_twice L cs t in
        let n : length marks ≡ length mgs = ap length a ∙ length-map mgs _ in
        mass_at mgs r.place r.number (omega (arith, r.within, marks_many)) (ap (λ (ms : List Weighed). get_or ms r.place no_mark) (sym a) ∙ r.refused)

    pub each_alone : (mgs : List ℕ) → marks ≡ massed mgs → AllWeighed L (map line_of cs) mgs
    each_alone mgs a = all_weighed (map line_of cs) mgs (sym (marked_as_before L cs (none_twice mgs a)) ∙ a)

    -- one mark is refused: so a line is by itself, or a number stands twice
    pub data Sent : Type 0 where
      by_line : OneRefused L (map line_of cs) → Sent
      by_number : Twice cs → Sent

    sent : (i n : ℕ) → i < length marks → get_or marks i no_mark ≡ refusal.refused n → Sent
    sent i n h e = go ((refusals_at L cs i k n).0 e)
      where
        k : i < length cs
        k = omega (arith, marks_many)

        by_itself : {m : ℕ} → weighed L (line_of (at cs i)) ≡ refusal.refused m → Sent
        by_itself {m} w = by_line (at_place (map line_of cs) i m (omega (arith, k, length-map cs line_of)) (rw (line_at cs i) w))

        go : {m : ℕ} → RefusesAt L cs i m → Sent
        go (lacks d) = by_itself (dash_refused L (at cs i) d)
        go (is_again d a) = by_number (record { place = i; again = a })
        go (alone {n = m} d a r) = by_itself ((line_refusals L (at cs i) m).1 r)

-- ---- the need

out_of_need : {mg : ℕ} → Outside 9_999_999_999 mg → NoNeed (Some mg)
out_of_need (below_one e) = rw e no_agent
out_of_need (above_top h) = too_much h

above_none : {n : ℕ} → (n ≡ 0 → ⊥) → 1 ≤ n
above_none {n} z = omega (arith, z)

-- ---- the report

module _ (L : Limits) (t : List ℕ) where
  module _ (b : Bank) where
    abbrev bank : List Weighed
    bank = marked L (lines b)

    of_sent : {need : ℕ} → Needs t b need → Sent L b.cylinders → Reported L t (lines_bytes 1 bank ++ sent_back 13)
    of_sent n (by_line r) = one_refused n r
    of_sent n (by_number w) = named_twice n w

    of_total : (need : ℕ) → Needs t b need → (s : Summed) → Tally bank s → Reported L t (lines_bytes 1 bank ++ ending_bytes (ending need s))
    unfolding ending
    of_total need n s (refused i k h e) = of_sent n (sent L b.cylinders i k h e)
    of_total need n s (summed mgs a) =
        let once = none_twice L b.cylinders mgs a in
        let all = each_alone L b.cylinders mgs a in
        by_test (λ (e : Ending). Reported L t (lines_bytes 1 bank ++ ending_bytes e)) (leb need (sum mgs)) (Ending.Covered (as_milligrams (sum mgs))) (Ending.Short (as_milligrams (sum mgs)))
        (λ e. covered n once all (leb-true need (sum mgs) e)) (λ e. short n once all (leb-false need (sum mgs) e))

    abbrev ListedAs : Admitted → Type 0
    ListedAs a = Reported L t (listed a bank)

    of_need : Lined t b → (f : Field) → b.need ≡ f → Reported L t (listed (needed f) bank)
    of_need l None e = no_need l (subst NoNeed (sym e) sheets.blank)
    of_need l (Some mg) e =
        by_test ListedAs (is_need mg) (Ok mg) (refusal.refused 12)
        (λ r. let i = inside 9_999_999_999 mg r in
        of_total mg (record { lined = l; need = e; at_least = i.0; at_most = i.1 }) (total bank) (tally bank))
        (λ r. no_need l (subst NoNeed (sym e) (out_of_need (outside 9_999_999_999 mg r))))

    of_count : in_form t ≡ Some b → Reported L t (listed (admitted true (length b.cylinders) b.need) bank)
    unfolding admitted
    of_count e =
        by_test ListedAs (eqb (length b.cylinders) 0) _ _ (λ p. no_lines e (eqb-true _ 0 p))
        (λ p. by_test ListedAs (ltb 32 (length b.cylinders)) _ _ (λ q. many_lines e (ltb-true 32 _ q))
        (λ q. of_need (record { read = e; some_line = above_none (eqb-false (length b.cylinders) 0 p); at_most = ltb-false 32 _ q }) b.need refl))

  of_form : (o : Option Bank) → in_form t ≡ o → Reported L t (report L o)
  unfolding report
  of_form None e = not_in_form e
  of_form (Some b) e = of_count b e

  pub reported : Reported L t (report L (in_form t))
  reported = of_form (in_form t) refl

  -- ---- and no other is

  past_count : (b : Bank) (f : Field) → Lined t b → b.need ≡ f → report L (in_form t) ≡ listed (needed f) (marked L (lines b))
  unfolding report admitted
  past_count b f l e =
      rw (l.read, ne_eqb (length b.cylinders) 0 (omega (arith, l.some_line)), le-ltb 32 (length b.cylinders) l.at_most, e)

  without_need : (b : Bank) → Lined t b → (f : Field) → b.need ≡ f → NoNeed f → report L (in_form t) ≡ sent_back 12
  without_need b l f e sheets.blank = past_count b None l e
  without_need b l f e no_agent = past_count b (Some 0) l e
  without_need b l f e (too_much {mg} h) = past_count b (Some mg) l e ∙ rw (is_outside 9_999_999_999 mg (above_top h))

  needing : {b : Bank} {need : ℕ} → Needs t b need
      → report L (in_form t) ≡ lines_bytes 1 (marked L (lines b)) ++ ending_bytes (ending need (total (marked L (lines b))))
  needing {b} {need} n = past_count b (Some need) n.lined n.need ∙ rw (is_inside 9_999_999_999 need n.at_least n.at_most)

  pub only : {bs : List ℕ} → Reported L t bs → report L (in_form t) ≡ bs
  unfolding report admitted ending
  only (not_in_form e) = rw e
  only (no_lines e z) = rw (e, z)
  only (many_lines {b} e h) = rw (e, ne_eqb (length b.cylinders) 0 (omega arith), lt-ltb 32 (length b.cylinders) h)
  only (no_need {b} l n) = without_need b l b.need refl n
  only (one_refused {b} n r) = needing n ∙ rw (one_total L b.cylinders r)
  only (named_twice {b} n w) = needing n ∙ rw (twice_total L b.cylinders w)
  only (covered {b} {need} {mgs} n once a h) = needing n ∙ rw (once_total L b.cylinders once a, le-leb need (sum mgs) h)
  only (short {b} {need} {mgs} n once a h) = needing n ∙ rw (once_total L b.cylinders once a, lt-leb need (sum mgs) h)

-- THE REPORT of a text is bs exactly where the order of RULES 3.4 says so
pub reports : (L : Limits) (t bs : List ℕ) → Exactly (report L (in_form t) ≡ bs) (Reported L t bs)
reports L t bs = (λ e. subst (Reported L t) e (reported L t), only L t)

-- ---- every byte of the lent output

front : (xs ys : List ℕ) (i : ℕ) → i < length xs → get_or (xs ++ ys) i 0 ≡ get_or xs i 0
front [] ys i h = absurd (omega arith)
front (x ∷ xs) ys zero h = refl
front (x ∷ xs) ys (suc i) h = front xs ys i (le_of_suc-le-suc h)

behind : (o bs : List ℕ) (i : ℕ) → length bs ≤ i → get_or (bs ++ drop (length bs) o) i 0 ≡ get_or o i 0
behind o bs i h =
    let e : length bs + (i - length bs) ≡ i = omega arith in
    ap (λ (k : ℕ). get_or (bs ++ drop (length bs) o) k 0) (sym e) ∙ get_or-append-add bs (drop (length bs) o) (i - length bs) 0
    ∙ get_or-drop (length bs) o (i - length bs) 0 ∙ ap (λ (k : ℕ). get_or o k 0) e

delivered : (L : Limits) (t o xs : List ℕ) (r : Written) → ReportIs o xs (report L (in_form t)) r → Delivered L t o xs r
unfolding overlaid
delivered L t o xs (Ok k) p =
    let bs = report L (in_form t) in
    let w = p.0 in
    subst (λ (n : ℕ). Delivered L t o xs (Ok n)) (sym w.count)
    (fits (reported L t) p.1 (long w p.1) (λ i h. rw w.bytes (front bs (drop (length bs) o) i h)) (λ i h. rw w.bytes (behind o bs i h)))
delivered L t o xs (Err n) p = subst (λ (k : ℕ). Delivered L t o xs (refusal.refused k)) (sym p.0) (too_long (reported L t) p.2 p.1)

-- DEMANDS 1 AND 2 for a sheet: whatever limits, bytes and output, this is what comes back of `score` and what every byte of the output is
pub score_delivers : (κs : Lfts 2) → Delivers (score.Post κs)
score_delivers κs a r x p = delivered _ _ _ _ r p

-- of two texts with the same front, what stands behind it begins alike
behind_same : (xs ys zs : List ℕ) → xs ++ ys ≡ xs ++ zs → get_or ys 0 0 ≡ get_or zs 0 0
behind_same xs ys zs e =
    sym (get_or-append-add xs ys 0 0) ∙ ap (λ (l : List ℕ). get_or l (length xs + 0) 0) e ∙ get_or-append-add xs zs 0 0

module _ (L : Limits) where
  -- a line that is refused by itself means no verdict
  pub no_verdict : (t : List ℕ) {b : Bank} {need : ℕ} → Needs t b need → OneRefused L (lines b)
      → report L (in_form t) ≡ lines_bytes 1 (marked L (lines b)) ++ sent_back 13
  no_verdict t n r = only L t (one_refused n r)

  -- and so does a number that stands twice
  pub twice_no_verdict : (t : List ℕ) {b : Bank} {need : ℕ} → Needs t b need → Twice b.cylinders
      → report L (in_form t) ≡ lines_bytes 1 (marked L (lines b)) ++ sent_back 13
  twice_no_verdict t n w = only L t (named_twice n w)

  -- `S`, which is 83, stands where a verdict has `T`, which is 84
  no_t : (t : List ℕ) {b : Bank} {need : ℕ} → Needs t b need → Twice b.cylinders → (e : Ending) → get_or (ending_bytes e) 0 0 ≡ 84
      → report L (in_form t) ≡ lines_bytes 1 (marked L (lines b)) ++ ending_bytes e → ⊥
  unfolding ending_bytes
  no_t t {b} n w e v r =
      let z : ◌≡◌ {A = ℕ} 83 84 = behind_same (lines_bytes 1 (marked L (lines b))) _ _ (sym (twice_no_verdict t n w) ∙ r) ∙ v in
      omega arith

  -- A SHEET WITH A VERDICT NAMES NO NUMBER TWICE
  pub covered_once : (t : List ℕ) {b : Bank} {need : ℕ} → Needs t b need → (mg : Milligrams)
      → report L (in_form t) ≡ lines_bytes 1 (marked L (lines b)) ++ ending_bytes (Ending.Covered mg) → Twice b.cylinders → ⊥
  unfolding ending_bytes
  covered_once t n mg r w = no_t t n w (Ending.Covered mg) refl r

  pub short_once : (t : List ℕ) {b : Bank} {need : ℕ} → Needs t b need → (mg : Milligrams)
      → report L (in_form t) ≡ lines_bytes 1 (marked L (lines b)) ++ ending_bytes (Ending.Short mg) → Twice b.cylinders → ⊥
  unfolding ending_bytes
  short_once t n mg r w = no_t t n w (Ending.Short mg) refl r

  -- the largest total: 32 lines of less than 2⁵³ mg each, which 64 bits hold
  each_under : {ls : List (Line Float)} {mgs : List ℕ} → AllWeighed L ls mgs → sum mgs ≤ length ls * (2 ^ 53 - 1)
  each_under none_left = omega arith
  each_under (one_more {l} {ls} e a) =
      let u = subst Under e (weighed_under L l) in
      omega (arith, u, each_under a)

  pub largest_total : {ls : List (Line Float)} {mgs : List ℕ} → AllWeighed L ls mgs → length ls ≤ 32 → sum mgs ≤ 32 * (2 ^ 53 - 1)
  largest_total a h = omega (arith, each_under a)
