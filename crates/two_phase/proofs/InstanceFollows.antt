-- The step of a real instance is that of the reduced one.
use Rattle.two_phase.proofs.Words.{◌≡◌, ℕ, Bool, true, false, Option, Some, None, List, [], ◌∷◌, ◌++◌, map, refl, sym, ap, subst, ◌∙◌, if◌then◌else◌, matches}
use Rattle.two_phase.proofs.Words.{flow_of, unit_at, output_for, without, newest_of, records_of, table_read, Action, Plain, Pass, EventRule, FullCell}
use Rattle.two_phase.proofs.Words.{units_in, InstanceState, TwoMsg, Step, still, the_update, sent_inside, Rule, Free, Drops, Buffers, read, flat_map-append}
use Rattle.std.specs.List.{AllZip}
use Rattle.std.proofs.Common.{append-nil}
use Rattle.std.specs.FinMap as finite
use Rattle.std.proofs.lemmas.List.{map-append}
use Rattle.record_table.specs.Chunks.{are_good}
use Rattle.record_table.specs.Table.{TableView}
use Rattle.event_filter.specs.declared.action.Action.TheVariants as action
use Rattle.event_filter.specs.Rules as rules
use Rattle.nf_msgs.specs.declared.msg.Msg.TheVariants as msg
use Rattle.instance_worker.specs.Instance.{process_step, all_processed, carry_step, on_carry, on_fence, on_get, on_restore}
use Rattle.two_phase.specs.declared.msg.TwoMsg.TheVariants as two
use Rattle.two_phase.specs.declared.note.TwoNote.TheVariants as note
use Rattle.two_phase.specs.Tables.{wrapped_step, with_told, inner_step}
use Rattle.two_machine.proofs.Tables as core
use Rattle.two_phase.proofs.AlikeLists.{alike-append}
use Rattle.two_phase.proofs.RecordLaws.{Sound, Setting, sys, chunks}
use Rattle.two_phase.proofs.Outlines
use Rattle.two_phase.proofs.Outlines.{outline_note, IsGenuine, Shown, ShownTo, Sends, one_rule, HasRule, RulesShow, InstanceShows}

abbrev CoreStep : {R : Type 0} → Setting R → Type 0
CoreStep setting = core.Step (sys setting) (core.Inst (Sound setting.f))

module _ {F R : Type 0} (setting : Setting R) where
  open setting use {f, laws, site, filter, packet}

  -- a real step and a reduced one
  pub record Follows (index : ℕ) (did : Step (InstanceState F R)) (dj : core.Step (sys setting) (core.Inst (Sound f))) : Type 0 where
    pub node : InstanceShows setting index did.node dj.node
    pub sends : Sends setting did.sends dj.sends
    pub notes : read outline_note did.notes ≡ dj.notes

  pub still_follows : (index : ℕ) (i : InstanceState F R) (j : core.Inst (Sound f)) → InstanceShows setting index i j
      → Follows index (still i) (core.still (sys setting) j)
  still_follows index i j h = record { node = h; sends = tt; notes = refl }

  -- where the controller is told of no packet
  untold : (index : ℕ) (did : Step (InstanceState F R)) (dj : CoreStep setting) → Follows index did dj → Follows index (with_told None did) dj
  untold index did dj h = record { node = h.node; sends = subst (λ xs. Sends setting xs dj.sends) (sym (append-nil did.sends)) h.sends; notes = h.notes }

  module _ (index : ℕ) (i : InstanceState F R) (j : core.Inst (Sound f)) (h : InstanceShows setting index i j) where
    -- a packet is processed, plain or past the rules
    pub plain_follows : (cell : FullCell) (n : ℕ) → IsGenuine setting cell n
        → Follows index (wrapped_step (process_step f i Plain cell)) (core.processed (sys setting) index j n)
    unfolding process_step
    plain_follows cell n g =
        let live = h.live in
        let at = h.site_is in
        let place = h.index_is in
        let same = g.packet_is in
        let number : (packet n).number ≡ n = sym (ap (λ p. p.number) same) ∙ g.number in
        record {
          node = record { live = rw (at, live, same) refl; site_is = at; index_is = place; ended = h.ended; rules = h.rules };
          sends = ((refl, Outlines.Credit cell n g), tt);
          notes = rw (at, live, place, same)
              (ap (λ k. core.Processed k index (output_for f site (finite.get j.table.live (unit_at f.kind site (packet n))) (packet n)) ∷ []) number);
        }

    passed_same : (cell : FullCell) → process_step f i Plain cell ≡ process_step f i (Pass the_update) cell
    unfolding process_step
    passed_same cell = refl

    pub pass_follows : (cell : FullCell) (n : ℕ) → IsGenuine setting cell n
        → Follows index (inner_step f i (two.Inner (msg.Carry (Pass the_update) cell))) (core.inst_step (sys setting) index j (core.Pass n))
    unfolding on_carry
    pass_follows cell n g =
        let did = wrapped_step (process_step f i (Pass the_update) cell) in
        let dj = core.processed (sys setting) index j n in
        let one : Follows index did dj = subst (λ x. Follows index (wrapped_step x) dj) (passed_same cell) (plain_follows cell n g) in
        record {
          node = one.node;
          sends =
              alike-append (ShownTo setting) did.sends dj.sends ((1, two.Inner (msg.Seen the_update cell.packet)) ∷ []) ((1, core.Seen n) ∷ []) one.sends
              ((refl, Outlines.Seen cell.packet n g.number), tt);
          notes = one.notes;
        }

    -- a plain packet, by the rule
    pub carry_follows : (cell : FullCell) (n : ℕ) → IsGenuine setting cell n
        → Follows index (inner_step f i (two.Inner (msg.Carry Plain cell))) (core.inst_step (sys setting) index j (core.Carry n))
    unfolding on_carry
    carry_follows cell n g =
        untold index (wrapped_step (carry_step f i Plain cell (rules.decide i.rules (flow_of i.site cell.packet).0 Plain)))
        (if covers then core.ruled (sys setting) j.rule index j n else core.processed (sys setting) index j n) (by_rule j.rule refl h.rules)
      where
        covers : Bool
        covers = matches filter (flow_of site (packet n)).0

        flow_is : (flow_of i.site cell.packet).0 ≡ (flow_of site (packet n)).0
        flow_is = ap (λ s. (flow_of s cell.packet).0) h.site_is ∙ ap (λ p. (flow_of site p).0) g.packet_is

        runs : Follows index (wrapped_step (process_step f i Plain cell)) (core.processed (sys setting) index j n)
        runs = plain_follows cell n g

        free : (b : Bool)
            → Follows index (wrapped_step (process_step f i Plain cell))
            (if b then core.processed (sys setting) index j n else core.processed (sys setting) index j n)
        free true = runs
        free false = runs

        -- by the first rule, where it is the update's
        by_one : (act : Action) (cells : List FullCell) → i.rules ≡ one_rule setting act cells → (dj : CoreStep setting)
            → Follows index (wrapped_step (carry_step f i Plain cell (rules.decided the_update act))) dj
            → Follows index (wrapped_step (carry_step f i Plain cell (rules.decide i.rules (flow_of i.site cell.packet).0 Plain)))
            (if covers then dj else core.processed (sys setting) index j n)
        by_one act cells is dj one =
            let found : Option (EventRule FullCell) = Some (record { op = the_update; filter = filter; action = act; held = cells }) in
            let decided : rules.decide i.rules (flow_of i.site cell.packet).0 Plain ≡ rules.decided_by (if covers then found else None) =
            ap (λ rs. rules.decide rs (flow_of i.site cell.packet).0 Plain) is
            ∙ ap (λ fl. rules.decided_by (if matches filter fl then found else None)) flow_is
            in
            subst (λ d. Follows index (wrapped_step (carry_step f i Plain cell d)) (if covers then dj else core.processed (sys setting) index j n))
            (sym decided) (
            elim covers as (λ b.
            Follows index (wrapped_step (carry_step f i Plain cell (rules.decided_by (if b then found else None))))
            (if b then dj else core.processed (sys setting) index j n)) [
              | true ↦ one
              | false ↦ runs
            ])

        by_rule : (r : Rule) → j.rule ≡ r → RulesShow setting i.rules r j.held
            → Follows index (wrapped_step (carry_step f i Plain cell (rules.decide i.rules (flow_of i.site cell.packet).0 Plain)))
            (if covers then core.ruled (sys setting) r index j n else core.processed (sys setting) index j n)
        by_rule Free e k =
            subst (λ rs.
            Follows index (wrapped_step (carry_step f i Plain cell (rules.decide rs (flow_of i.site cell.packet).0 Plain)))
            (if covers then core.processed (sys setting) index j n else core.processed (sys setting) index j n)) (sym k.0) (free covers)
        by_rule Drops e k =
            by_one action.Drop k.cells k.is (core.ruled (sys setting) Drops index j n)
            (record { node = h; sends = ((refl, Outlines.Event cell n g), tt); notes = refl })
        by_rule Buffers e k =
            by_one action.Buffer k.cells k.is (core.ruled (sys setting) Buffers index j n) (record {
              node = record {
                live = h.live;
                site_is = h.site_is;
                index_is = h.index_is;
                ended = h.ended;
                rules = rw e (record {
                  cells = k.cells ++ cell ∷ [];
                  is = ap (λ rs. rules.with_held rs the_update cell) k.is;
                  genuine = alike-append (IsGenuine setting) k.cells j.held (cell ∷ []) (n ∷ []) k.genuine (g, tt);
                });
              };
              sends = tt;
              notes = refl;
            })

  -- what is held, one after another
  all_follow : (index : ℕ) (i : InstanceState F R) (j : core.Inst (Sound f)) (cells : List FullCell) (ns : List ℕ) → InstanceShows setting index i j
      → AllZip (IsGenuine setting) cells ns → Follows index (wrapped_step (all_processed f i cells)) (core.all_processed (sys setting) index j ns)
  unfolding all_processed
  all_follow index i j [] [] h g = still_follows index i j h
  all_follow index i j (cell ∷ cells) (n ∷ ns) h g =
      let one = plain_follows index i j h cell n g.0 in
      let first = process_step f i Plain cell in
      let later = all_processed f first.node cells in
      let core_first = core.processed (sys setting) index j n in
      let core_later = core.all_processed (sys setting) index core_first.node ns in
      let rest = all_follow index first.node core_first.node cells ns one.node g.1 in
      record {
        node = rest.node;
        sends = subst (λ xs. Sends setting xs (core_first.sends ++ core_later.sends)) (sym (map-append sent_inside first.sends later.sends))
            (alike-append (ShownTo setting) (wrapped_step first).sends core_first.sends (wrapped_step later).sends core_later.sends one.sends rest.sends);
        notes =
            ap (read outline_note) (map-append note.Inner first.notes later.notes)
            ∙ flat_map-append outline_note (wrapped_step first).notes (wrapped_step later).notes
            ∙ ap (λ xs. xs ++ read outline_note (wrapped_step later).notes) one.notes
            ∙ ap (λ xs. core_first.notes ++ xs) rest.notes;
      }
  all_follow index i j x y h g = absurd g

  module _ (index : ℕ) (i : InstanceState F R) (j : core.Inst (Sound f)) (h : InstanceShows setting index i j) where
    -- the other messages
    pub stop_follows : Follows index (inner_step f i (two.Inner msg.Stop)) (core.inst_step (sys setting) index j core.Stop)
    stop_follows = record {
      node = record { live = h.live; site_is = h.site_is; index_is = h.index_is; ended = refl; rules = h.rules };
      sends = ((refl, Outlines.Final), tt);
      notes = refl;
    }

    enabled : (act : Action) (r : Rule) → RulesShow setting i.rules r j.held → HasRule setting (rules.with_rule i.rules the_update filter act) act j.held
    enabled act Free k = let none = k.0 in let empty = k.1 in rw (none, empty) (record { cells = []; is = refl; genuine = tt })
    enabled act x k = record { cells = k.cells; is = ap (λ rs. rules.with_rule rs the_update filter act) k.is; genuine = k.genuine }

    enable_follows : (act : Action) (r : Rule) → RulesShow setting (rules.with_rule i.rules the_update filter act) r j.held
        → Follows index (inner_step f i (two.Inner (msg.Enable the_update filter act))) (core.inst_step (sys setting) index j (core.Enable r))
    enable_follows act r shown = record {
      node = record { live = h.live; site_is = h.site_is; index_is = h.index_is; ended = h.ended; rules = shown };
      sends = ((refl, Outlines.Enabled), tt);
      notes = refl;
    }

    pub get_follows : Follows index (inner_step f i (two.Inner (msg.Get the_update filter))) (core.inst_step (sys setting) index j core.Get)
    unfolding on_get
    get_follows =
        record { node = h; sends = ((refl, rw h.live (Outlines.Chunks (core.System.select (sys setting) j.table))), tt); notes = refl }

    -- the instance with other live records
    live_shows : {t : TableView R} {c : Sound f} → t.live ≡ c.live → InstanceShows setting index (record i { table = t }) (record j { table = c })
    live_shows is = record { live = is; site_is = h.site_is; index_is = h.index_is; ended = h.ended; rules = h.rules }

    pub delete_follows : (c : Sound f)
        → Follows index (inner_step f i (two.Inner (msg.Delete the_update (units_in (chunks setting c)))))
        (core.inst_step (sys setting) index j (core.Delete c))
    delete_follows c = record {
      node = live_shows (ap (without (units_in (chunks setting c))) h.live);
      sends = ((refl, Outlines.Deleted), tt);
      notes = refl;
    }

    pub restore_follows : (c : Sound f)
        → Follows index (inner_step f i (two.Inner (msg.Restore the_update (chunks setting c)))) (core.inst_step (sys setting) index j (core.Restore c))
    unfolding on_restore
    restore_follows c =
        let good : are_good f (chunks setting c) ≡ true = (table_read f laws c.live c.sound).good in
        rw good (record {
          node = live_shows (ap (λ m. newest_of f m (records_of f (chunks setting c))) h.live);
          sends = ((refl, Outlines.Restored), tt);
          notes = refl;
        })

    -- the fence
    pub fence_follows : Follows index (inner_step f i (two.Inner (msg.Fence the_update))) (core.inst_step (sys setting) index j core.Fence)
    unfolding on_fence
    fence_follows = by j.rule h.rules
      where
        bare : InstanceState F R
        bare = record i { rules = rules.without_rule i.rules the_update }

        core_bare : core.Inst (Sound f)
        core_bare = record j { rule = Free; held = [] }

        did : Step (InstanceState F R)
        did = wrapped_step (all_processed f bare (rules.held_at i.rules the_update))

        dj : CoreStep setting
        dj = core.all_processed (sys setting) index core_bare j.held

        with_answer : Follows index did dj → Follows index (inner_step f i (two.Inner (msg.Fence the_update))) (core.inst_step (sys setting) index j core.Fence)
        with_answer all =
            let real = all_processed f bare (rules.held_at i.rules the_update) in
            untold index (wrapped_step (record { node = real.node; sends = real.sends ++ (1, msg.Fenced the_update) ∷ []; notes = real.notes ++ [] }))
            (record { node = dj.node; sends = dj.sends ++ (1, core.Fenced) ∷ []; notes = dj.notes }) (record {
              node = all.node;
              sends =
                  subst (λ xs. Sends setting xs (dj.sends ++ (1, core.Fenced) ∷ [])) (sym (map-append sent_inside real.sends ((1, msg.Fenced the_update) ∷ [])))
                  (alike-append (ShownTo setting) did.sends dj.sends ((1, two.Inner (msg.Fenced the_update)) ∷ []) ((1, core.Fenced) ∷ []) all.sends
                  ((refl, Outlines.Fenced), tt));
              notes = ap (λ ns. read outline_note (map note.Inner ns)) (append-nil real.notes) ∙ all.notes;
            })

        begins : rules.without_rule i.rules the_update ≡ [] → InstanceShows setting index bare core_bare
        begins none = record { live = h.live; site_is = h.site_is; index_is = h.index_is; ended = h.ended; rules = (none, refl) }

        after_all : (cells : List FullCell) → rules.held_at i.rules the_update ≡ cells
            → Follows index (wrapped_step (all_processed f bare cells)) dj → Follows index did dj
        after_all cells is all = subst (λ cs. Follows index (wrapped_step (all_processed f bare cs)) dj) (sym is) all

        of_rule : (act : Action) → HasRule setting i.rules act j.held
            → Follows index (inner_step f i (two.Inner (msg.Fence the_update))) (core.inst_step (sys setting) index j core.Fence)
        of_rule act k =
            let none : rules.without_rule i.rules the_update ≡ [] = ap (λ rs. rules.without_rule rs the_update) k.is in
            let cells : rules.held_at i.rules the_update ≡ k.cells = ap (λ rs. rules.held_at rs the_update) k.is in
            with_answer (after_all k.cells cells (all_follow index bare core_bare k.cells j.held (begins none) k.genuine))

        by : (r : Rule) → RulesShow setting i.rules r j.held
            → Follows index (inner_step f i (two.Inner (msg.Fence the_update))) (core.inst_step (sys setting) index j core.Fence)
        by Free k =
            let none : rules.without_rule i.rules the_update ≡ [] = ap (λ rs. rules.without_rule rs the_update) k.0 in
            let cells : rules.held_at i.rules the_update ≡ [] = ap (λ rs. rules.held_at rs the_update) k.0 in
            with_answer (after_all [] cells
            (subst (λ ns. Follows index (wrapped_step (all_processed f bare [])) (core.all_processed (sys setting) index core_bare ns)) (sym k.1)
            (all_follow index bare core_bare [] [] (begins none) tt)))
        by Drops k = of_rule action.Drop k
        by Buffers k = of_rule action.Buffer k

    -- any message
    pub instance_follows : (x : TwoMsg) (y : core.Msg (Sound f)) → Shown setting x y → Follows index (inner_step f i x) (core.inst_step (sys setting) index j y)
    instance_follows x y (Outlines.Carry cell n g) = carry_follows index i j h cell n g
    instance_follows x y (Outlines.Passes cell n g) = pass_follows index i j h cell n g
    instance_follows x y Outlines.Fence = fence_follows
    instance_follows x y Outlines.Stop = stop_follows
    instance_follows x y Outlines.Enable_drop = enable_follows action.Drop Drops (enabled action.Drop j.rule h.rules)
    instance_follows x y Outlines.Enable_buffer = enable_follows action.Buffer Buffers (enabled action.Buffer j.rule h.rules)
    instance_follows x y Outlines.Get = get_follows
    instance_follows x y (Outlines.Delete c) = delete_follows c
    instance_follows x y (Outlines.Restore c) = restore_follows c
    instance_follows x y shown = still_follows index i j h
