-- The step of the real switch is that of the reduced one.
use Rattle.two_phase.proofs.Words.{◌≡◌, ℕ, zero, suc, ◌+◌, ◌-◌, Bool, true, false, Some, [], ◌∷◌, refl, sym, ap, subst, ◌∙◌, arith, if◌then◌else◌, nat_lt}
use Rattle.two_phase.proofs.Words.{◌&&◌, unwrap_or, false≢true, nat_tests, Filter, Flow, matches, IsFilter, IsFlow, flow_of, Target, ToInstance, ToController}
use Rattle.two_phase.proofs.Words.{first_match, FullCell, WindowState, TwoMsg, SwitchState, Step, still, To_a, To_both, To_b, read}
use Rattle.std.specs.Prelude.{option_map}
use Rattle.nf_function.proofs.FlowFits.{flow_fits}
use Rattle.switch_rules.specs.Rules.{Redirect, rules_redirected, redirected_target, target_eq}
use Rattle.switch_rules.proofs.RedirectLaws.{redirected_law, AreFilters-redirected}
use Rattle.packet_window.specs.Window.{has_room, cell_for, with_one, with_home, with_end}
use Rattle.packet_window.proofs.WindowLemmas.{one_balanced, home_balanced, home_name, home_cells, home_closed, home_flying}
use Rattle.two_phase.specs.Tables.{target_of, goes_to, on_packet, on_lay, on_finish, switch_step, takes_in}
use Rattle.two_machine.proofs.Machine.{Target as Goes, laid}
use Rattle.two_machine.proofs.Tables as core
use Rattle.two_phase.proofs.RecordLaws.{Sound, Setting, sys}
use Rattle.two_phase.proofs.Outlines
use Rattle.two_phase.proofs.Outlines.{outline_note, IsGenuine, WindowShows, Shown, Sends, target_shown, SwitchShows}

module _ {R : Type 0} (setting : Setting R) where
  open setting use {site, filter, numbers, packet, fits}

  abbrev CoreStep : Type 0
  CoreStep = core.Step (sys setting) core.Switch

  pub record FollowsSwitch (did : Step SwitchState) (dt : core.Step (sys setting) core.Switch) : Type 0 where
    pub node : SwitchShows setting did.node dt.node
    pub sends : Sends setting did.sends dt.sends
    pub notes : read outline_note did.notes ≡ dt.notes

  shown_by : (b : Bool) (to : Goes) → (if b then target_shown to else ToInstance 0) ≡ target_shown (if b then to else To_a)
  shown_by true to = refl
  shown_by false to = refl

  pub room_same : (s : SwitchState) (t : core.Switch) → SwitchShows setting s t → has_room s.window ≡ core.has_room (sys setting) t
  room_same s t h = ap (λ k. nat_lt k s.window.pool.cells) h.window.flying ∙ ap (λ k. nat_lt t.flying k) h.window.cells

  module _ (s : SwitchState) (t : core.Switch) (h : SwitchShows setting s t) where
    still_follows : FollowsSwitch (still s) (core.still (sys setting) t)
    still_follows = record { node = h; sends = tt; notes = refl }

    -- the same with another window
    with_window : (w : WindowState) (u : core.Switch) → u.target ≡ t.target → WindowShows w u.window u.flying u.closed
        → SwitchShows setting (record s { window = w }) u
    with_window w u same shows = record {
      site_is = h.site_is;
      filter_is = h.filter_is;
      filters = h.filters;
      routed =
          subst (λ (to : Goes). (flow : Flow) → IsFlow flow → first_match s.rules flow ≡ Some (if matches filter flow then target_shown to else ToInstance 0))
          (sym same) h.routed;
      window = shows;
    }

    -- a packet arrives, where there is room
    arrived : has_room s.window ≡ true → SwitchShows setting (record s { window = with_one s.window }) (core.with_one (sys setting) t)
    arrived room = with_window (with_one s.window) (core.with_one (sys setting) t) refl (record {
      name = h.window.name;
      cells = h.window.cells;
      balanced = one_balanced s.window h.window.balanced room;
      flying = ap (λ k. k + 1) h.window.flying;
      closed = h.window.closed;
    })

    goes_follow : (n : ℕ) (to : Goes) → (packet n).number ≡ n → has_room s.window ≡ true
        → FollowsSwitch (goes_to s (packet n) (target_shown to)) (core.goes (sys setting) to t n)
    goes_follow n to number room = by to
      where
        cell : FullCell
        cell = cell_for s.window (packet n)

        genuine : IsGenuine setting cell n
        genuine = record { packet_is = refl; number = number; pool = h.window.name }

        by : (to : Goes) → FollowsSwitch (goes_to s (packet n) (target_shown to)) (core.goes (sys setting) to t n)
        by To_a = record { node = arrived room; sends = ((refl, Outlines.Carry cell n genuine), tt); notes = ap (λ k. core.Arrived k ∷ []) number }
        by To_both = record {
          node = arrived room;
          sends = ((refl, Outlines.Carry cell n genuine), ((refl, Outlines.Copied (packet n) n number), tt));
          notes = ap (λ k. core.Arrived k ∷ []) number;
        }
        by To_b = record { node = arrived room; sends = ((refl, Outlines.Carry cell n genuine), tt); notes = ap (λ k. core.Arrived k ∷ []) number }

    packet_follows : (n : ℕ) → (packet n).number ≡ n → FollowsSwitch (on_packet s (packet n)) (core.on_packet (sys setting) t n)
    packet_follows n number =
        let to : Goes = if matches filter (flow_of site (packet n)).0 then t.target else To_a in
        let target : target_of s (packet n) ≡ target_shown to =
        ap (λ x. unwrap_or (first_match s.rules (flow_of x (packet n)).0) (ToInstance 0)) h.site_is
        ∙ ap (λ o. unwrap_or o (ToInstance 0)) (h.routed (flow_of site (packet n)).0 (flow_fits site (packet n) (fits n)))
        ∙ shown_by (matches filter (flow_of site (packet n)).0) t.target
        in
        let went : Bool → Step SwitchState = λ b. if b then goes_to s (packet n) (target_of s (packet n)) else still s in
        let core_went : Bool → CoreStep = λ b. if b then core.goes (sys setting) to t n else core.still (sys setting) t in
        subst (λ b. FollowsSwitch (went (has_room s.window)) (core_went b)) (room_same s t h) (
        elim (has_room s.window) as (λ b. has_room s.window ≡ b → FollowsSwitch (went b) (core_went b)) [
          | true ↦ λ room.
              subst (λ x. FollowsSwitch (goes_to s (packet n) x) (core.goes (sys setting) to t n)) (sym target)
              (goes_follow n to number room)
          | false ↦ λ _. still_follows
        ] refl)

    finish_follows : (to : ℕ) → nat_lt to 2 ≡ true → FollowsSwitch (on_finish s to) (core.on_finish (sys setting) t to)
    finish_follows zero few = record { node = h; sends = ((refl, Outlines.Stop), tt); notes = refl }
    finish_follows (suc zero) few = record {
      node = with_window (with_end s.window) (record t { closed = true }) refl (record {
        name = h.window.name;
        cells = h.window.cells;
        balanced = h.window.balanced;
        flying = h.window.flying;
        closed = refl;
      });
      sends = ((refl, Outlines.Stop), tt);
      notes = refl;
    }
    finish_follows (suc (suc k)) few = absurd (false≢true (sym (many k) ∙ few))
      where
        many : (k : ℕ) → nat_lt (suc (suc k)) 2 ≡ false
        many k = grind (arith, nat_tests)

    credit_follows : (cell : FullCell) (n : ℕ) → IsGenuine setting cell n
        → FollowsSwitch (still (record s { window = with_home s.window cell })) (core.switch_step (sys setting) t (core.Credit n))
    credit_follows cell n g = record {
      node = with_window (with_home s.window cell) (record t { flying = t.flying - 1 }) refl (record {
        name = home_name s.window cell ∙ h.window.name;
        cells = home_cells s.window cell ∙ h.window.cells;
        balanced = home_balanced s.window cell h.window.balanced;
        flying = home_flying s.window cell (g.pool ∙ sym h.window.name) ∙ ap (λ k. k - 1) h.window.flying;
        closed = home_closed s.window cell ∙ h.window.closed;
      });
      sends = tt;
      notes = refl;
    }

  -- a rule is laid
  abbrev redirect_of : Bool → Filter → Redirect
  redirect_of false own = record { filter = own; from = ToInstance 0; to = ToController }
  redirect_of true own = record { filter = own; from = ToController; to = ToInstance 1 }

  abbrev target_before : Bool → Goes → Target
  target_before b to = if b then target_shown to else ToInstance 0

  target_after : (high b : Bool) (to : Goes)
      → (if b && target_eq (target_before b to) (redirect_of high filter).from then (redirect_of high filter).to else target_before b to)
      ≡ target_before b (laid high to)
  target_after false true To_a = refl
  target_after true true To_a = refl
  target_after high b to = refl

  redirect_shows : (s : SwitchState) (t : core.Switch) (high : Bool) → SwitchShows setting s t
      → SwitchShows setting (record s { rules = rules_redirected (redirect_of high s.filter) s.rules }) (record t { target = laid high t.target })
  redirect_shows s t high h =
      let r : Redirect = redirect_of high filter in
      rw h.filter_is (record {
        site_is = h.site_is;
        filter_is = refl;
        filters = AreFilters-redirected r s.rules h.filters (own_numbers high);
        routed = λ flow fits.
            redirected_law r s.rules h.filters (own_numbers high) flow fits
            ∙ ap (option_map (redirected_target r flow)) (h.routed flow fits)
            ∙ ap Some (same_filter high flow ∙ target_after high (matches filter flow) t.target);
        window = h.window;
      })
    where
      own_numbers : (high : Bool) → IsFilter (redirect_of high filter).filter
      own_numbers false = numbers
      own_numbers true = numbers

      same_filter : (high : Bool) (flow : Flow)
          → redirected_target (redirect_of high filter) flow (target_before (matches filter flow) t.target)
          ≡ (if matches filter flow && target_eq (target_before (matches filter flow) t.target) (redirect_of high filter).from
          then (redirect_of high filter).to
          else target_before (matches filter flow) t.target)
      same_filter false flow = refl
      same_filter true flow = refl

  lay_follows : (s : SwitchState) (t : core.Switch) (high : Bool) → SwitchShows setting s t
      → FollowsSwitch (on_lay high s) (core.switch_step (sys setting) t (core.Lay high))
  lay_follows s t false h = record { node = redirect_shows s t false h; sends = ((refl, Outlines.Laid false), tt); notes = refl }
  lay_follows s t true h = record { node = redirect_shows s t true h; sends = ((refl, Outlines.Laid true), tt); notes = refl }

  -- any message
  pub switch_follows : (s : SwitchState) (t : core.Switch) (x : TwoMsg) (y : core.Msg (Sound setting.f)) → SwitchShows setting s t → Shown setting x y
      → FollowsSwitch (switch_step s x) (core.switch_step (sys setting) t y)
  switch_follows s t x y h (Outlines.In_packet n number) = packet_follows s t h n number
  switch_follows s t x y h Outlines.In_start = record { node = h; sends = ((refl, Outlines.Start), tt); notes = refl }
  switch_follows s t x y h Outlines.In_end = record { node = h; sends = ((refl, Outlines.End), tt); notes = refl }
  switch_follows s t x y h (Outlines.Forward cell n g) = record { node = h; sends = ((refl, Outlines.Passes cell n g), tt); notes = refl }
  switch_follows s t x y h (Outlines.Lay high) = lay_follows s t high h
  switch_follows s t x y h (Outlines.Finish to few) = finish_follows s t h to few
  switch_follows s t x y h (Outlines.Credit cell n g) = credit_follows s t h cell n g
  switch_follows s t x y h shown = still_follows s t h

  -- whether it takes an item of the input
  pub takes_same : (s : SwitchState) (t : core.Switch) (x : TwoMsg) (y : core.Msg (Sound setting.f)) → SwitchShows setting s t → Shown setting x y
      → takes_in s x ≡ core.takes_in (sys setting) t y
  takes_same s t x y h (Outlines.In_packet n number) = room_same s t h
  takes_same s t x y h shown = refl
