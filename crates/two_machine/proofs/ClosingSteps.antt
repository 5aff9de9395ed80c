-- What each message of the closing leads to, and what a step of the controller leaves of it.
use Rattle.two_machine.proofs.Words.{◌≡◌, ℕ, Bool, true, false, List, [], ◌∷◌, ◌++◌, refl, sym, ap, ◌∙◌, if◌then◌else◌, ◌==◌, false≢true, System, Ctrl, Step}
use Rattle.two_machine.proofs.Words.{World, read, flat_map-append, sent, put_ctrl}
use Rattle.std.proofs.Common.{drop}
use Rattle.two_machine.proofs.Closing.{Close, Unsent, Finish_a, Stop_a, Final_a, Finish_b, Stop_b, Final_b, Closed, Signs, signs, ends, is_at_end, seen_signs}
use Rattle.two_machine.proofs.Closing.{Closing}
use Rattle.two_machine.proofs.ClosingController.{StepOk}

-- a message of the closing is taken
abbrev pub finishes_at : ℕ → Signs → Signs
finishes_at to x = record x {
  cs = drop 1 x.cs;
  sa = if to == 0 then x.sa ++ 2 ∷ [] else x.sa;
  sb = if to == 0 then x.sb else x.sb ++ 2 ∷ [];
  closed = if to == 1 then true else x.closed;
}

abbrev pub stops_a : Signs → Signs
stops_a x = record x { sa = drop 1 x.sa; ac = x.ac ++ 3 ∷ []; a = true }

abbrev pub stops_b : Signs → Signs
stops_b x = record x { sb = drop 1 x.sb; bc = x.bc ++ 3 ∷ []; b = true }

abbrev pub hears_a : Signs → Signs
hears_a x = record x { ac = drop 1 x.ac; cs = x.cs ++ 1 ∷ [] }

abbrev pub hears_b : Signs → Signs
hears_b x = record x { bc = drop 1 x.bc; stopped = true }

-- and the next one follows
pub at_finish : (k : Close) (to : ℕ) (xs : List ℕ) → to ∷ xs ≡ (signs k).cs → (n : Close) × (finishes_at to (signs k) ≡ signs n)
at_finish Finish_a to xs e = let zero_is : to ≡ 0 = cc in rw zero_is (Stop_a, refl)
at_finish Finish_b to xs e = let one_is : to ≡ 1 = cc in rw one_is (Stop_b, refl)
at_finish k to xs e = cc

pub at_stop_a : (k : Close) (xs : List ℕ) → 2 ∷ xs ≡ (signs k).sa → (n : Close) × (stops_a (signs k) ≡ signs n)
at_stop_a Stop_a xs e = (Final_a, refl)
at_stop_a k xs e = cc

pub at_stop_b : (k : Close) (xs : List ℕ) → 2 ∷ xs ≡ (signs k).sb → (n : Close) × (stops_b (signs k) ≡ signs n)
at_stop_b Stop_b xs e = (Final_b, refl)
at_stop_b k xs e = cc

pub at_final_a : (k : Close) (xs : List ℕ) → 3 ∷ xs ≡ (signs k).ac → (n : Close) × (hears_a (signs k) ≡ signs n)
at_final_a Final_a xs e = (Finish_b, refl)
at_final_a k xs e = cc

pub at_final_b : (k : Close) (xs : List ℕ) → 3 ∷ xs ≡ (signs k).bc → (n : Close) × (hears_b (signs k) ≡ signs n)
at_final_b Final_b xs e = (Closed, refl)
at_final_b k xs e = cc

-- what the controller says and is
abbrev by_ctrl : Signs → List ℕ → Bool → Bool → Signs
by_ctrl x said finished over = record x { cs = x.cs ++ said; finished = finished; over = over }

says_no_more : (k : Close) → (signs k).finished ≡ true → (by_ctrl (signs k) [] true true ≡ signs k) × ((signs k).over ≡ true)
says_no_more Unsent e = absurd (false≢true e)
says_no_more k e = (refl, refl)

says_first : (k : Close) (b : Bool) → (signs k).finished ≡ false → (n : Close) × (by_ctrl (signs k) (if b then 0 ∷ [] else []) b b ≡ signs n)
says_first Unsent true e = (Finish_a, refl)
says_first Unsent false e = (Unsent, refl)
says_first k b e = absurd (false≢true (sym e))

module _ {U T C R O : Type 0} (S : System U T C R O) where
  -- nothing new is seen of it
  pub same_close : {v w : World T C O} → seen_signs S w ≡ seen_signs S v → Closing S v → Closing S w
  same_close e h = record { at = h.at; is = e ∙ h.is }

  -- its next message follows
  pub next_close : {v w : World T C O} (g : Signs → Signs) → seen_signs S w ≡ g (seen_signs S v) → (h : Closing S v)
      → (n : Close) × (g (signs h.at) ≡ signs n) → Closing S w
  next_close g e h next = record { at = next.0; is = e ∙ ap g h.is ∙ next.1 }

  -- the controller, but on Final
  pub ctrl_close : (v : World T C O) (did : Step S (Ctrl C)) → StepOk S v.ct did → Closing S v → Closing S (put_ctrl S v did)
  ctrl_close v did ok h = by (signs h.at).finished refl
    where
      said : List ℕ
      said = read ends (sent 0 did.sends)

      does : seen_signs S (put_ctrl S v did) ≡ by_ctrl (signs h.at) said did.node.finished (is_at_end S did.node)
      does =
          ap (λ l. record (by_ctrl (seen_signs S v) said did.node.finished (is_at_end S did.node)) { cs = l; stopped = did.node.stopped })
          (flat_map-append ends v.cs (sent 0 did.sends))
          ∙ ap (λ b. record (by_ctrl (seen_signs S v) said did.node.finished (is_at_end S did.node)) { stopped = b }) ok.stopped
          ∙ ap (λ x. by_ctrl x said did.node.finished (is_at_end S did.node)) h.is

      by : (b : Bool) → (signs h.at).finished ≡ b → Closing S (put_ctrl S v did)
      by true e =
          let same = says_no_more h.at e in
          let quiet = ok.if_done (ap (λ x. x.finished) h.is ∙ e) (ap (λ x. x.over) h.is ∙ same.1) in
          record { at = h.at; is = does ∙ rw (quiet.0, quiet.1, quiet.2) same.0 }
      by false e =
          let first = says_first h.at (is_at_end S did.node) e in
          let once = ok.if_not (ap (λ x. x.finished) h.is ∙ e) in
          record { at = first.0; is = does ∙ rw (once.0, once.1) first.1 }
