-- A world that isn't complete has an enabled choice.
use Rattle.two_machine.proofs.Words.{◌≡◌, ◌<◌, ◌⊎◌, inl, inr, ℕ, true, false, Option, Some, None, List, [], ◌∷◌, ◌++◌, refl, sym, ap, subst, ◌∙◌, append-nil}
use Rattle.two_machine.proofs.Words.{arith, ◌==◌, ◌&&◌, is_some, false≢true, nat_tests, Choice, Network, is_enabled, is_done, Over, Frame, State, same, Stage}
use Rattle.two_machine.proofs.Words.{Not_begun, Waits, No_packet_came, High_comes, Settles, Is_over, Before, Storing, Passing, Turned, Ends, Fits, Rises}
use Rattle.two_machine.proofs.Words.{last_or, to_list, System, Laws, Msg, Note, Node, In_packet, In_start, In_end, has_room, node_ready, node_ended, World}
use Rattle.two_machine.proofs.Words.{net, read, starts, Nobody, frame, view, Place, In, Cs, Aw, Bw, Sc, Ac, Bc, Sa, Ca, Sb, Cb, choice, waits, waiting_at}
use Rattle.two_machine.proofs.Words.{Label, copies, shape, Each}
use Rattle.actor_net.specs.declared.schedule.Schedule.TheVariants.{First}
use Rattle.actor_net.specs.Schedules.{pick_of}
use Rattle.actor_net.specs.Network.{IsWorld}
use Rattle.actor_net.proofs.ScheduleLaws.{picked_enabled, picked_none}
use Rattle.actor_net.proofs.DisabledChoices.{stuck_links}
use Rattle.two_machine.proofs.Machine as m
use Rattle.two_machine.proofs.Stages as s
use Rattle.two_machine.proofs.Laws.{append_nil_right}
use Rattle.two_machine.proofs.Arrivals.{OneEnd, EndsLast, EndAt, In_input_still, On_link, Has_come}
use Rattle.two_machine.proofs.Runs.{Holds}
use Rattle.two_machine.proofs.Closing.{Close, Unsent, Closed, Closing, signs, ends, is_at_end}
use Rattle.two_machine.proofs.RunLengths.{nobody_run}
use Rattle.two_machine.proofs.Cells.{Counts}
use Rattle.two_machine.proofs.Promises.{LeadsTo, switch_window}

-- nothing stands on the links, as the machine sees them
pub record Bare {R : Type 0} (x : State R) : Type 0 where
  pub sa : x.sa ≡ []
  pub passes : x.passes ≡ []
  pub forwards : x.forwards ≡ []
  pub events : x.events ≡ []
  pub seens : x.seens ≡ []
  pub sc : x.sc ≡ []
  pub cs : x.cs ≡ []
  pub ca : x.ca ≡ []
  pub cb : x.cb ≡ []
  pub ac : x.ac ≡ []
  pub bc : x.bc ≡ []

-- where the update waits without a message of its own: not begun, for a packet, or over
pub record Waiting {R : Type 0} (x : State R) : Type 0 where
  pub store : x.c.store ≡ []
  pub a_held : x.a.held ≡ []
  pub b_held : x.b.held ≡ []
  pub cause : (x.starts ≡ 0 ∷ []) ⊎ (x.c.ended ≡ false) ⊎ (x.c.phase ≡ Over)

module _ {R : Type 0} (f : Frame R) where
  -- all was seen, so it would have settled
  settled : (o t : Option ℕ) → is_some t ≡ true → ((x : ℕ) → last_or None (to_list t ++ []) ≡ Some x → last_or None (to_list o ++ []) ≡ Some x)
      → same o t ≡ true
  settled o None some h = absurd (false≢true some)
  settled None (Some y) some h = let never = h y refl in cc
  settled (Some x) (Some y) some h = let last = h y refl in let is : x ≡ y = cc in rw is (itself y)
    where
      itself : (n : ℕ) → (n == n) ≡ true
      itself n = grind (arith, nat_tests)

  pub waits_there : (st : Stage) → Fits st → Bare (shape f st) → Waiting (shape f st)
  waits_there (Before Not_begun d l b) w h = record { store = refl; a_held = refl; b_held = refl; cause = inl refl }
  waits_there (Before n d l b) w h = let no_message = h.ca in cc
  waits_there (Storing s.Get_goes d g e l b) w h = let no_message = h.ca in cc
  waits_there (Storing n d g e l b) w h = let ac = h.ac in let ca = h.ca in let cb = h.cb in let bc = h.bc in cc
  waits_there (Passing Waits d o z x g e l t c b) w h = record { store = refl; a_held = refl; b_held = refl; cause = inr (inl w.own) }
  waits_there (Passing No_packet_came d o z x g e l t c b) w h = record { store = refl; a_held = refl; b_held = refl; cause = inr (inr refl) }
  waits_there (Passing n d o z x g e l t c b) w h = let cs = h.cs in let sc = h.sc in cc
  waits_there (Turned High_comes d o z x g e l t c h y b) w k = let no_message = append_nil_right (copies c) (m.Laid true ∷ []) k.sc in cc
  waits_there (Turned Settles d o z x g e l t c h y b) w k =
      let none = w.own.0 in
      let g_is = k.forwards in
      let last : (v : ℕ) → last_or None (to_list t ++ []) ≡ Some v → last_or None (to_list o ++ []) ≡ Some v = λ v is.
      let whole : (to_list o ++ z) ++ (x ++ (g ++ (e ++ l))) ≡ to_list o ++ [] = rw (k.seens, k.passes, g_is, k.events, k.sa) (append-nil (to_list o ++ [])) in
      ap (λ xs. last_or None xs) (sym whole) ∙ w.follows.last v (ap (λ xs. last_or None (to_list t ++ xs)) none ∙ is)
      in
      absurd (false≢true (sym w.own.1 ∙ settled o t w.own.2 last))
  waits_there (Ends Is_over d o t h y b) w k = record { store = refl; a_held = refl; b_held = w; cause = inr (inr refl) }
  waits_there (Ends n d o t h y b) w k = let cb = k.cb in let bc = k.bc in cc

module _ {U T C R O : Type 0} (S : System U T C R O) (laws : Laws S) where
  -- an enabled choice
  abbrev pub Goes : World T C O → Type 0
  Goes v = (c : Choice) × (is_enabled (node_ready S) (net v) c ≡ true)

  -- nothing on any link
  abbrev IsLink : Place → Type 0
  IsLink In = ⊥
  IsLink pl = Unit {0}

  abbrev Links : World T C O → Type 0
  Links v = (pl : Place) → IsLink pl → waits S pl v ≡ []

  is_link : (pl : Place) → IsLink pl → ((choice pl).node == 0) && ((choice pl).port == 0) ≡ false
  is_link In link = absurd link
  is_link pl link = refl

  links_or : (v : World T C O) → Goes v ⊎ Links v
  links_or v = by (pick_of (node_ready S) First (net v)) refl
    where
      is_world : IsWorld (net v)
      is_world = record { some_node = omega arith; few_nodes = omega arith; square = refl; no_loop = refl }

      by : (o : Option Choice) → pick_of (node_ready S) First (net v) ≡ o → Goes v ⊎ Links v
      by (Some c) picks = inl (c, picked_enabled (node_ready S) First (net v) c picks)
      by None picks =
          let none = picked_none (node_ready S) First (net v) picks in
          inr
          (λ pl link.
          sym (waiting_at S pl v)
          ∙ stuck_links (node_ready S) (net v) is_world none (choice pl).port (choice pl).node (is_link pl link))

  bare : (v : World T C O) → Links v → Bare (view S Nobody v)
  bare v h = record {
    sa = rw (h Sa tt) refl;
    passes = rw (h Sb tt) refl;
    forwards = rw (h Cs tt) refl;
    events = rw (h Ac tt) refl;
    seens = rw (h Bc tt) refl;
    sc = rw (h Sc tt) refl;
    cs = rw (h Cs tt) refl;
    ca = rw (h Ca tt) refl;
    cb = rw (h Cb tt) refl;
    ac = rw (h Ac tt) refl;
    bc = rw (h Bc tt) refl;
  }

  -- the closing has come to its end where none of its messages stands anywhere
  all_closed : (v : World T C O) (c : Closing S v) → Links v → is_at_end S v.ct ≡ true → c.at ≡ Closed
  all_closed v c h over =
      let cs : (signs c.at).cs ≡ [] = sym (ap (λ x. x.cs) c.is) ∙ ap (read ends) (h Cs tt) in
      let sa : (signs c.at).sa ≡ [] = sym (ap (λ x. x.sa) c.is) ∙ ap (read ends) (h Sa tt) in
      let sb : (signs c.at).sb ≡ [] = sym (ap (λ x. x.sb) c.is) ∙ ap (read ends) (h Sb tt) in
      let ac : (signs c.at).ac ≡ [] = sym (ap (λ x. x.ac) c.is) ∙ ap (read ends) (h Ac tt) in
      let bc : (signs c.at).bc ≡ [] = sym (ap (λ x. x.bc) c.is) ∙ ap (read ends) (h Bc tt) in
      by c.at cs sa sb ac bc (sym (ap (λ x. x.over) c.is) ∙ over)
    where
      by : (k : Close) → (signs k).cs ≡ [] → (signs k).sa ≡ [] → (signs k).sb ≡ [] → (signs k).ac ≡ [] → (signs k).bc ≡ [] → (signs k).over ≡ true → k ≡ Closed
      by Closed cs sa sb ac bc e = refl
      by Unsent cs sa sb ac bc e = absurd (false≢true e)
      by k cs sa sb ac bc e = cc

  -- no packet is under way
  none_flies : (window : ℕ) (v : World T C O) → Counts S window v → Links v → Waiting (view S Nobody v) → v.sw.flying ≡ 0
  none_flies window v n h w = n.flying ∙ rw (h Sa tt, h Sb tt, h Cs tt, h Ac tt, h Aw tt, h Bw tt, w.store, w.a_held, w.b_held) refl

  has_room_there : (window : ℕ) (v : World T C O) → 0 < window → Counts S window v → v.sw.flying ≡ 0 → has_room S v.sw ≡ true
  has_room_there window v some n flying = let win = n.window_is in rw (flying, win) (grind (arith, nat_tests, some))

  -- the input goes on
  input_goes : (v : World T C O) (m : Msg C) (rest : List (Msg C)) → v.input ≡ m ∷ rest → Label S In m → has_room S v.sw ≡ true → Goes v
  input_goes v (In_packet p) rest e l room = (choice In, rw e room)
  input_goes v In_start rest e l room = (choice In, rw e refl)
  input_goes v In_end rest e l room = (choice In, rw e refl)
  input_goes v m rest e l room = absurd l

  -- End came where neither the input nor a link has it
  end_came : (v : World T C O) → EndAt v → v.input ≡ [] → Links v → v.ct.ended ≡ true
  end_came v (In_input_still last quiet not_yet) none h = absurd (subst EndsLast none last)
  end_came v (On_link empty one not_yet) none h = absurd (subst OneEnd (h Sc tt) one)
  end_came v (Has_come empty quiet has) none h = has

  no_input : (v : World T C O) (all : List ℕ) (rises : Rises 0 all) (window : ℕ) → Holds S laws Nobody tt all rises v → Counts S window v
      → Links v → Waiting (view S Nobody v) → v.sw.flying ≡ 0 → v.input ≡ [] → is_done (node_ended S) (net v) ≡ true
  no_input v all rises window h n links w flying none =
      let ended = end_came v h.end_at none links in
      let no_start : read starts v.input ++ read starts v.sc ≡ [] = let sc = links Sc tt in rw (none, sc) refl in
      by ended no_start w.cause
    where
      over_done : v.ct.ended ≡ true → v.ct.phase ≡ Over → is_done (node_ended S) (net v) ≡ true
      over_done ended over =
          let c = h.closing in
          let at_end : is_at_end S v.ct ≡ true = rw (over, ended) refl in
          let at = all_closed v c links at_end in
          let stopped : v.ct.stopped ≡ true = ap (λ x. x.stopped) c.is ∙ ap (λ k. (signs k).stopped) at in
          let a : v.a.stopped ≡ true = ap (λ x. x.a) c.is ∙ ap (λ k. (signs k).a) at in
          let b : v.b.stopped ≡ true = ap (λ x. x.b) c.is ∙ ap (λ k. (signs k).b) at in
          let closed : v.sw.closed ≡ true = ap (λ x. x.closed) c.is ∙ ap (λ k. (signs k).closed) at in
          rw (
            none,
            links Sa tt,
            links Sb tt,
            links Sc tt,
            links Cs tt,
            links Ca tt,
            links Cb tt,
            links Ac tt,
            links Bc tt,
            links Aw tt,
            links Bw tt,
            stopped,
            a,
            b,
            closed,
            flying,
          ) refl

      by : v.ct.ended ≡ true → read starts v.input ++ read starts v.sc ≡ []
          → ((read starts v.input ++ read starts v.sc) ≡ 0 ∷ []) ⊎ (v.ct.ended ≡ false) ⊎ (v.ct.phase ≡ Over) → is_done (node_ended S) (net v) ≡ true
      by ended no_start (inl begins) = let never = sym no_start ∙ begins in cc
      by ended no_start (inr (inl not_yet)) = absurd (false≢true (sym not_yet ∙ ended))
      by ended no_start (inr (inr over)) = over_done ended over

  goes_or_done : (v : World T C O) (all : List ℕ) (rises : Rises 0 all) (window : ℕ) → 0 < window → Holds S laws Nobody tt all rises v
      → Counts S window v → (is_done (node_ended S) (net v) ≡ true) ⊎ Goes v
  goes_or_done v all rises window some h n = by (links_or v)
    where
      by_input : Links v → Waiting (view S Nobody v) → v.sw.flying ≡ 0 → (l : List (Msg C)) → v.input ≡ l → Each (Label S In) l
          → (is_done (node_ended S) (net v) ≡ true) ⊎ Goes v
      by_input links w flying [] e each = inl (no_input v all rises window h n links w flying e)
      by_input links w flying (x ∷ l) e each = inr (input_goes v x l e each.0 (has_room_there window v some n flying))

      by : Goes v ⊎ Links v → (is_done (node_ended S) (net v) ≡ true) ⊎ Goes v
      by (inl goes) = inr goes
      by (inr links) =
          let bare_there : Bare (shape (frame S Nobody) h.stage) = subst Bare h.alike (bare v links) in
          let w : Waiting (view S Nobody v) = subst Waiting (sym h.alike) (waits_there (frame S Nobody) h.stage h.fits bare_there) in
          by_input links w (none_flies window v n links w) v.input refl (h.labels.standing In)

  -- every run
  module _ (window : ℕ) (early late : List ℕ) (some : 0 < window) (rises : Rises 0 (early ++ late)) where
    -- a world that isn't complete has an enabled choice
    pub never_stuck : (cs : List Choice) (w : Network (Node T C) (Msg C) (Note O)) → LeadsTo S window early late cs w
        → (is_done (node_ended S) w ≡ true) ⊎ ((c : Choice) × (is_enabled (node_ready S) w c ≡ true))
    never_stuck cs w leads =
        let there = nobody_run S laws window early late rises cs leads.is_run in
        let world = leads.reached ∙ there.is in
        subst (λ y. (is_done (node_ended S) y ≡ true) ⊎ ((c : Choice) × (is_enabled (node_ready S) y c ≡ true))) (sym world)
        (goes_or_done there.world (early ++ late) rises window some there.holds there.more.counts)

    -- and the window stays
    pub window_stays : (cs : List Choice) (w : Network (Node T C) (Msg C) (Note O)) → LeadsTo S window early late cs w → switch_window w.nodes ≡ Some window
    window_stays cs w leads =
        let there = nobody_run S laws window early late rises cs leads.is_run in
        let world = leads.reached ∙ there.is in
        ap (λ y. switch_window y.nodes) world ∙ ap Some there.more.counts.window_is
