-- What the scan of a log tells: Low before High with a packet between them, and the verdict.
use Rattle.two_machine.proofs.Words.{◌≡◌, ℕ, Bool, true, false, List, [], ◌∷◌, ◌++◌, refl, sym, ap, ◌∙◌, append-nil, if◌then◌else◌, ◌||◌, false≢true, Scan}
use Rattle.two_machine.proofs.Words.{No_low, Is_done, Is_none, Frame, Stage, Passing, Ends, Low_comes, Waits, Is_over, System, Note, Arrived, Processed, Low}
use Rattle.two_machine.proofs.Words.{High, Done, No_packet, scans, shape, fold-append}
use Rattle.std.proofs.Math.Bool.{or-false}
use Rattle.std.proofs.lemmas.List.Folds.{fold_stays}
use Rattle.two_machine.proofs.Machine.{Low_only, Low_came, High_laid, Wrong}
use Rattle.two_machine.proofs.View.{scan_note}
use Rattle.two_machine.proofs.Promises.{after_low, has_come, verdicts}
use Rattle.two_machine.proofs.Shapes.{since}

-- whether such a packet came since Low
abbrev pub came_by : Scan → Bool
came_by Low_came = true
came_by High_laid = true
came_by Is_done = true
came_by s = false

abbrev pub verdicts_by : {O : Type 0} → Scan → List (Note O)
verdicts_by Is_done = Done ∷ []
verdicts_by Is_none = No_packet ∷ []
verdicts_by s = []

abbrev pub is_wrong : Scan → Bool
is_wrong Wrong = true
is_wrong s = false

abbrev pub has_low : Scan → Bool
has_low No_low = false
has_low s = true

module _ {U T C R O : Type 0} (S : System U T C R O) where
  -- nothing rights a wrong log
  wrong_stays : (ns : List (Note O)) → scans S Wrong ns ≡ Wrong
  wrong_stays ns = fold_stays (scan_note S) Wrong stays ns
    where
      stays : (n : Note O) → scan_note S Wrong n ≡ Wrong
      stays (Arrived p) = elim (S.covers p) as (λ b. (if b then Wrong else Wrong) ≡ Wrong) [ true ↦ refl | false ↦ refl ]
      stays n = refl

  never : {X : Type 0} → (ns : List (Note O)) → is_wrong (scans S Wrong ns) ≡ false → X
  never ns right = let wrong = wrong_stays ns in absurd (false≢true (sym (rw wrong at right)))

  -- where a packet leaves the scan as it is, whether the filter matches it or not
  come_either : (s : Scan) (ns : List (Note O)) (b : Bool) → is_wrong (scans S (if b then s else s) ns) ≡ false
      → (is_wrong (scans S s ns) ≡ false → true ≡ true → came_by (scans S s ns) ≡ true) → came_by (scans S (if b then s else s) ns) ≡ true
  come_either s ns true right h = h right refl
  come_either s ns false right h = h right refl

  -- from Low on
  come_since : (s : Scan) (ns : List (Note O)) → is_wrong (scans S s ns) ≡ false → has_low s ≡ true → came_by (scans S s ns) ≡ came_by s || has_come S.covers ns
  come_since No_low ns right low = absurd (false≢true low)
  come_since Wrong ns right low = never ns right
  come_since s [] right low = sym (or-false (came_by s))
  come_since Low_only (Arrived p ∷ ns) right low = by (S.covers p) right (come_since Low_came ns) (come_since Low_only ns)
    where
      by : (b : Bool) → is_wrong (scans S (if b then Low_came else Low_only) ns) ≡ false
          → (is_wrong (scans S Low_came ns) ≡ false → true ≡ true → came_by (scans S Low_came ns) ≡ true)
          → (is_wrong (scans S Low_only ns) ≡ false → true ≡ true → came_by (scans S Low_only ns) ≡ has_come S.covers ns)
          → came_by (scans S (if b then Low_came else Low_only) ns) ≡ b || has_come S.covers ns
      by true right h k = h right refl
      by false right h k = k right refl
  come_since Low_came (Arrived p ∷ ns) right low = come_either Low_came ns (S.covers p) right (come_since Low_came ns)
  come_since High_laid (Arrived p ∷ ns) right low = come_either High_laid ns (S.covers p) right (come_since High_laid ns)
  come_since Is_done (Arrived p ∷ ns) right low = come_either Is_done ns (S.covers p) right (come_since Is_done ns)
  come_since Is_none (Arrived p ∷ ns) right low = by (S.covers p) right (come_since Is_none ns)
    where
      by : (b : Bool) → is_wrong (scans S (if b then Wrong else Is_none) ns) ≡ false
          → (is_wrong (scans S Is_none ns) ≡ false → true ≡ true → came_by (scans S Is_none ns) ≡ has_come S.covers ns)
          → came_by (scans S (if b then Wrong else Is_none) ns) ≡ b || has_come S.covers ns
      by true right h = never ns right
      by false right h = h right refl
  come_since s (Processed p i o ∷ ns) right low = come_since s ns right low
  come_since Low_came (High ∷ ns) right low = come_since High_laid ns right refl
  come_since High_laid (Done ∷ ns) right low = come_since Is_done ns right refl
  come_since Low_only (No_packet ∷ ns) right low = come_since Is_none ns right refl
  come_since s (n ∷ ns) right low = never ns right

  -- and from the start
  pub from_start : (ns : List (Note O)) → is_wrong (scans S No_low ns) ≡ false → came_by (scans S No_low ns) ≡ has_come S.covers (after_low ns)
  from_start [] right = refl
  from_start (Arrived p ∷ ns) right = by (S.covers p) right (from_start ns)
    where
      by : (b : Bool) → is_wrong (scans S (if b then No_low else No_low) ns) ≡ false
          → (is_wrong (scans S No_low ns) ≡ false → came_by (scans S No_low ns) ≡ has_come S.covers (after_low ns))
          → came_by (scans S (if b then No_low else No_low) ns) ≡ has_come S.covers (after_low ns)
      by true right h = h right
      by false right h = h right
  from_start (Processed p i o ∷ ns) right = from_start ns right
  from_start (Low ∷ ns) right = come_since Low_only ns right refl
  from_start (n ∷ ns) right = never ns right

  -- what stands before High was right, and a packet had come
  before_high : (s : Scan) (after : List (Note O)) → is_wrong (scans S (scan_note S s High) after) ≡ false → s ≡ Low_came
  before_high Low_came after right = refl
  before_high s after right = never after right

  pub low_before_high : (log : List (Note O)) → is_wrong (scans S No_low log) ≡ false → (before after : List (Note O)) → log ≡ before ++ High ∷ after
      → has_come S.covers (after_low before) ≡ true
  low_before_high log right before after is =
      let was = before_high (scans S No_low before) after (rw (is, fold-append (scan_note S) No_low before (High ∷ after)) at right) in
      sym (from_start before (rw was refl)) ∙ ap came_by was

  same_after : (t s : Scan) (b : Bool) (ns : List (Note O)) → is_wrong (scans S (if b then t else s) ns) ≡ false → verdicts_by {O = O} s ≡ verdicts_by t
      → (is_wrong (scans S t ns) ≡ false → verdicts_by t ++ verdicts ns ≡ verdicts_by (scans S t ns))
      → (is_wrong (scans S s ns) ≡ false → verdicts_by s ++ verdicts ns ≡ verdicts_by (scans S s ns))
      → verdicts_by s ++ verdicts ns ≡ verdicts_by (scans S (if b then t else s) ns)
  same_after t s true ns right same h k = ap (λ xs. xs ++ verdicts ns) same ∙ h right
  same_after t s false ns right same h k = k right

  -- the verdict
  verdict_from : (s : Scan) (ns : List (Note O)) → is_wrong (scans S s ns) ≡ false → verdicts_by s ++ verdicts ns ≡ verdicts_by (scans S s ns)
  verdict_from Wrong ns right = never ns right
  verdict_from s [] right = append-nil (verdicts_by s)
  verdict_from s (Processed p i o ∷ ns) right = verdict_from s ns right
  verdict_from No_low (Arrived p ∷ ns) right = same_after No_low No_low (S.covers p) ns right refl (verdict_from No_low ns) (verdict_from No_low ns)
  verdict_from Low_only (Arrived p ∷ ns) right = same_after Low_came Low_only (S.covers p) ns right refl (verdict_from Low_came ns) (verdict_from Low_only ns)
  verdict_from Low_came (Arrived p ∷ ns) right = same_after Low_came Low_came (S.covers p) ns right refl (verdict_from Low_came ns) (verdict_from Low_came ns)
  verdict_from High_laid (Arrived p ∷ ns) right =
      same_after High_laid High_laid (S.covers p) ns right refl (verdict_from High_laid ns) (verdict_from High_laid ns)
  verdict_from Is_done (Arrived p ∷ ns) right = same_after Is_done Is_done (S.covers p) ns right refl (verdict_from Is_done ns) (verdict_from Is_done ns)
  verdict_from Is_none (Arrived p ∷ ns) right = by (S.covers p) right (verdict_from Is_none ns)
    where
      by : (b : Bool) → is_wrong (scans S (if b then Wrong else Is_none) ns) ≡ false
          → (is_wrong (scans S Is_none ns) ≡ false → No_packet ∷ verdicts ns ≡ verdicts_by (scans S Is_none ns))
          → No_packet ∷ verdicts ns ≡ verdicts_by (scans S (if b then Wrong else Is_none) ns)
      by true right h = never ns right
      by false right h = h right
  verdict_from No_low (Low ∷ ns) right = verdict_from Low_only ns right
  verdict_from Low_came (High ∷ ns) right = verdict_from High_laid ns right
  verdict_from High_laid (Done ∷ ns) right = verdict_from Is_done ns right
  verdict_from Low_only (No_packet ∷ ns) right = verdict_from Is_none ns right
  verdict_from s (n ∷ ns) right = never ns right

  pub the_verdict : (log : List (Note O)) → is_wrong (scans S No_low log) ≡ false → verdicts log ≡ verdicts_by (scans S No_low log)
  the_verdict log right = verdict_from No_low log right

-- no stage has a wrong log
since_right : (c : List ℕ) → is_wrong (since c) ≡ false
since_right [] = refl
since_right (p ∷ c) = refl

module _ {R : Type 0} (f : Frame R) where
  pub scan_right : (s : Stage) → is_wrong (shape f s).scan ≡ false
  scan_right (Passing Low_comes d s z x g e l t c b) = since_right c
  scan_right (Passing Waits d s z x g e l t c b) = since_right c
  scan_right (Passing n d s z x g e l t c b) = refl
  scan_right (Ends Is_over d s t h y b) = refl
  scan_right s = refl
