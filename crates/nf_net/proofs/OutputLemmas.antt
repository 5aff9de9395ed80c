-- Packets that were processed are answered as one instance answers them: what an instance notes, from the records that it has.
use Rattle.nf_net.proofs.Words.{◌≡◌, ◌≢◌, ℕ, true, Option, Some, None, List, [], ◌∷◌, ◌++◌, map, refl, sym, ap, ◌∙◌, subst, if◌then◌else◌, filter_map}
use Rattle.nf_net.proofs.Words.{map-append, Site, Output, Semantics, unit_at, kept_after, is_transport, Records, same_unit, after_packet, same_unit-true}
use Rattle.nf_net.proofs.Words.{FullCell, Msg, Note, Each, each-append, Sys, none_mine, Config, packet_numbered, dones_in, done_where, is_of, outputs, number}
use Rattle.nf_net.proofs.Words.{ran_in, is_sys, IsGenuine, Unit, split}
use Rattle.std.specs.FinMap as finite
use Rattle.std.proofs.lemmas.List.Elements.{filter-append}
use Rattle.nf_function.specs.Semantics.{output_for}
use Rattle.net_world.specs.Log.{Done}
use Rattle.net_world.specs.Fold.{fold}
use Rattle.proof_outlines.proofs.outline.Outline.{sys}
use Rattle.proof_outlines.proofs.outline.InstanceOutline.{after_same}

-- a packet of TCP or UDP has the number
abbrev pub IsCarried : List Msg → ℕ → Type 0
IsCarried items p = is_transport (packet_numbered items p).proto ≡ true

module _ {R : Type 0} (f : Semantics R) (c : Config) (items : List Msg) where
  -- a unit's packets among what was done, and the answers to them
  abbrev pub numbers : Unit → List Done → List ℕ
  numbers u ds = map (λ d. d.number) (done_where (is_of f c items u) ds)

  abbrev pub answers : Unit → List Done → List Output
  answers u ds = map (λ d. d.output) (done_where (is_of f c items u) ds)

  -- what was done of packets of TCP and UDP is answered as by one instance with these records
  pub record Answered (kept : Unit → Option R) (ds : List Done) : Type 0 where
    pub carried : Each (λ d. IsCarried items d.number) ds
    pub same : (u : Unit) → answers u ds ≡ outputs f c items (kept u) (numbers u ds)

  pub numbers-append : (u : Unit) (xs ys : List Done) → numbers u (xs ++ ys) ≡ numbers u xs ++ numbers u ys
  numbers-append u xs ys = ap (map (λ d. d.number)) (filter-append (λ d. is_of f c items u d.number) xs ys)
      ∙ map-append (λ d. d.number) (done_where (is_of f c items u) xs) (done_where (is_of f c items u) ys)

  answers-append : (u : Unit) (xs ys : List Done) → answers u (xs ++ ys) ≡ answers u xs ++ answers u ys
  answers-append u xs ys = ap (map (λ d. d.output)) (filter-append (λ d. is_of f c items u d.number) xs ys)
      ∙ map-append (λ d. d.output) (done_where (is_of f c items u) xs) (done_where (is_of f c items u) ys)

  outputs-append : (kept : Option R) (ps qs : List ℕ)
      → outputs f c items kept (ps ++ qs) ≡ outputs f c items kept ps ++ outputs f c items (fold f c items kept ps) qs
  outputs-append kept [] qs = refl
  outputs-append kept (p ∷ ps) qs =
      ap (λ v. output_for f c.site kept (packet_numbered items p) ∷ v) (outputs-append (kept_after f c.site kept (packet_numbered items p)) ps qs)

  -- nothing is done
  pub answered_nothing : (kept : Unit → Option R) → Answered kept []
  answered_nothing kept = record { carried = tt; same = λ u. refl }

  -- what was done goes on
  pub answered_more : (ds es : List Done) → Answered (λ u. None) ds → Answered (λ u. fold f c items None (numbers u ds)) es → Answered (λ u. None) (ds ++ es)
  answered_more ds es a b = record {
    carried = each-append (λ d. IsCarried items d.number) ds es a.carried b.carried;
    same = λ u.
        answers-append u ds es
        ∙ ap (λ v. v ++ answers u es) (a.same u)
        ∙ ap (λ v. outputs f c items None (numbers u ds) ++ v) (b.same u)
        ∙ sym (outputs-append None (numbers u ds) (numbers u es))
        ∙ ap (outputs f c items None) (sym (numbers-append u ds es));
  }

  -- other records that are the same for each unit of which something was done
  pub answered_by : (kept other : Unit → Option R) (ds : List Done) → Answered kept ds → ((u : Unit) → numbers u ds ≢ [] → kept u ≡ other u)
      → Answered other ds
  answered_by kept other ds a h = record { carried = a.carried; same = λ u. by_done u (done_where (is_of f c items u) ds) (h u) (a.same u) }
    where
      by_done : (u : Unit) (es : List Done) → (map (λ d. d.number) es ≢ [] → kept u ≡ other u)
          → map (λ d. d.output) es ≡ outputs f c items (kept u) (map (λ d. d.number) es)
          → map (λ d. d.output) es ≡ outputs f c items (other u) (map (λ d. d.number) es)
      by_done u [] some is = refl
      by_done u (e ∷ es) some is = subst (λ o. map (λ d. d.output) (e ∷ es) ≡ outputs f c items o (map (λ d. d.number) (e ∷ es))) (some (λ none. cc)) is

  -- one packet, and what is done after it
  pub answered_next : (kept after : Unit → Option R) (d : Done) (ds : List Done) → IsCarried items d.number
      → ((u : Unit) → is_of f c items u d.number ≡ true → d.output ≡ output_for f c.site (kept u) (packet_numbered items d.number))
      → ((u : Unit) → after u ≡ (if is_of f c items u d.number then kept_after f c.site (kept u) (packet_numbered items d.number) else kept u))
      → Answered after ds → Answered kept (d ∷ ds)
  answered_next kept after d ds carried output left rest = record {
    carried = (carried, rest.carried);
    same = λ u.
        split (is_of f c items u d.number)
        (λ b. after u ≡ (if b then kept_after f c.site (kept u) (packet_numbered items d.number) else kept u) → map (λ e. e.output)
        (if b then d ∷ done_where (is_of f c items u) ds else done_where (is_of f c items u) ds) ≡ outputs f c items (kept u)
        (map (λ e. e.number) (if b then d ∷ done_where (is_of f c items u) ds else done_where (is_of f c items u) ds)))
        (λ e k. ap (λ o. o ∷ answers u ds) (output u e)
        ∙ ap (λ v. output_for f c.site (kept u) (packet_numbered items d.number) ∷ v) (rest.same u ∙ ap (λ o. outputs f c items o (numbers u ds)) k))
        (λ e k. rest.same u ∙ ap (λ o. outputs f c items o (numbers u ds)) k) (left u);
  }

  abbrev net : Sys R
  net = sys f c.site (packet_numbered items)

  abbrev live_in : Records R → Unit → Option R
  live_in live u = finite.get live u

  module _ (live : Records R) (at : Site) (cell : FullCell) (at_is : at ≡ c.site) (g : IsGenuine c.site (packet_numbered items) cell) where
    abbrev n : ℕ
    n = number cell

    abbrev unit : Unit
    unit = unit_at f.kind c.site (packet_numbered items n)

    abbrev output : Output
    output = output_for f at (finite.get live (unit_at f.kind at cell.packet)) cell.packet

    abbrev after : Records R
    after = after_packet f at live cell.packet

    carried : IsCarried items n
    carried = subst (λ p. is_transport p.proto ≡ true) g.same g.transport

    output_is : (u : Unit) → same_unit unit u ≡ true → output ≡ output_for f c.site (finite.get live u) (packet_numbered items n)
    output_is u e =
        ap (λ s. output_for f s (finite.get live (unit_at f.kind s cell.packet)) cell.packet) at_is
        ∙ ap (λ p. output_for f c.site (finite.get live (unit_at f.kind c.site p)) p) g.same
        ∙ ap (λ v. output_for f c.site (finite.get live v) (packet_numbered items n)) (same_unit-true unit u e)

    left : (u : Unit)
        → finite.get after u ≡ (if same_unit unit u then kept_after f c.site (finite.get live u) (packet_numbered items n) else finite.get live u)
    left u =
        ap (λ t. finite.get t u) (after_same f c.site (packet_numbered items) live at cell at_is g)
        ∙ (is_sys f c.site (packet_numbered items)).written u unit (f.stepped c.site (finite.get live unit) (packet_numbered items n)).kept live
        ∙ split (same_unit unit u)
        (λ b. (if b then Some (f.stepped c.site (finite.get live unit) (packet_numbered items n)).kept else finite.get live u) ≡
        (if b then kept_after f c.site (finite.get live u) (packet_numbered items n) else finite.get live u))
        (λ e. let transport = carried in
        rw transport (ap (λ v. Some (f.stepped c.site (finite.get live v) (packet_numbered items n)).kept) (same_unit-true unit u e))) (λ e. refl)

    -- one packet that an instance with these records processes, and what is done after it
    pub answered_packet : (instance : ℕ) (ds : List Done) → Answered (live_in after) ds
        → Answered (live_in live) (record { number = n; instance = instance; output = output } ∷ ds)
    answered_packet instance ds rest =
        answered_next (live_in live) (live_in after) (record { number = n; instance = instance; output = output }) ds carried output_is left rest

  -- the unit's packets among those that an instance ran
  pub numbers_ran : (u : Unit) (ns : List Note) → numbers u (dones_in ns) ≡ none_mine net u (filter_map ran_in ns)
  numbers_ran u [] = refl
  numbers_ran u (Note.Processed n instance output ∷ ns) =
      split (is_of f c items u n)
      (λ b. map (λ d. d.number)
      (if b then (record { number = n; instance = instance; output = output }) ∷ done_where (is_of f c items u) (dones_in ns) else done_where
      (is_of f c items u) (dones_in ns)) ≡ (if b then n ∷ none_mine net u (filter_map ran_in ns) else none_mine net u (filter_map ran_in ns)))
      (λ _. ap (λ v. n ∷ v) (numbers_ran u ns)) (λ _. numbers_ran u ns)
  numbers_ran u (n ∷ ns) = numbers_ran u ns
