-- What an instance's step leaves live: what was and isn't removed, and the units that it gains by what it notes.
use Rattle.nf_net.proofs.Words.{◌≡◌, ℕ, Bool, true, false, cond, Option, Some, None, List, [], ◌∷◌, ◌++◌, map, append-nil, append_assoc, refl, sym, ap, ◌∙◌}
use Rattle.nf_net.proofs.Words.{subst, if◌then◌else◌, ◌&&◌, ◌||◌, not, is_some, flat_map, or-false, or_right, or_left, Filter, Site, Chunk, newest, kept_after}
use Rattle.nf_net.proofs.Words.{unit_at, Records, same_unit, is_among, either, after_packet, same_unit_equiv, Decide, Mark, FullCell, tally_read, Answer, Piece}
use Rattle.nf_net.proofs.Words.{Msg, Note, units_in, InstanceState, to_controller, and_then, tell_step, tells_and_notes, with_standby, with_records, keep_note}
use Rattle.nf_net.proofs.Words.{where_good, is_live, carry_step, tally_put, piece_refusal, instance_step, Each, order_numbered, gained_by, is_first_of}
use Rattle.nf_net.proofs.Words.{is_shared_away, unit_numbered, removed_by, number, Given, chunks_good, Genuine, AreGoodChunks, IsGoodPiece, given, Unit}
use Rattle.nf_net.proofs.Words.{flow_of, records_of, Setting}
use Rattle.std.specs.Prelude.{Ok, Err}
use Rattle.std.specs.FinMap as finite
use Rattle.record_table.specs.Table.{union_of}
use Rattle.record_table.proofs.RecordLookUps.{get-after_packet, get-joined, get-without}
use Rattle.event_filter.specs.Rules as rules
use Rattle.instance_worker.specs.Instance.{Step, still, with_live, imported, process_step, all_processed, on_carry, on_fence, on_stream, on_get, on_put}
use Rattle.instance_worker.specs.Instance.{on_restore, on_standby, on_sync, on_put_all, piece_put}
use Rattle.nf_net.proofs.paths.ChunkLemmas.{good_units}
use Rattle.nf_net.proofs.StandbySteps.{brought_is}

or_true : (a : Bool) → true ≡ a || true
or_true true = refl
or_true false = refl

or_assoc : (a b d : Bool) → (a || b) || d ≡ a || (b || d)
or_assoc true b d = refl
or_assoc false b d = refl

and_true : (a : Bool) → a ≡ a && true
and_true true = refl
and_true false = refl

taken_out : {X : Type 0} (t : Bool) (o : Option X) → is_some (cond t None o) ≡ (is_some o && not t) || false
taken_out true None = refl
taken_out true (Some x) = refl
taken_out false None = refl
taken_out false (Some x) = refl

some_either : {X : Type 0} (choose : X → X → X) (a b : Option X) → is_some (either choose a b) ≡ is_some a || is_some b
some_either choose None None = refl
some_either choose None (Some b) = refl
some_either choose (Some a) None = refl
some_either choose (Some a) (Some b) = refl

module _ {F R : Type 0} (setting : Setting F R) (y : ℕ) (log : List Note) where
  open setting use {function as f, laws, config as c, items}

  abbrev g : Given
  g = given setting

  abbrev numbered_unit : ℕ → Unit
  numbered_unit k = unit_numbered c items f.kind k

  abbrev is_away : Unit → Bool
  is_away u = is_shared_away c items u y log

  abbrev pub gains : List Note → List Unit
  gains notes = flat_map (gained_by c items f.kind y log) notes

  -- the unit of a packet is gained, where no share has it elsewhere
  own_gain : (k : ℕ) → is_away (numbered_unit k) ≡ false → (if is_away (numbered_unit k) then [] else numbered_unit k ∷ []) ≡ numbered_unit k ∷ []
  own_gain k off = rw off refl

  no_gain : (k : ℕ) → is_away (numbered_unit k) ≡ true → (if is_away (numbered_unit k) then [] else numbered_unit k ∷ []) ≡ []
  no_gain k on = rw on refl

  -- A packet that steps a live record
  after_live : (live : Records R) (site : Site) (cell : FullCell) → site ≡ c.site → Genuine f g cell → (u : Unit)
      → is_some (finite.get (after_packet f site live cell.packet) u) ≡ is_some (finite.get live u) || is_among (numbered_unit (number cell) ∷ []) u
  after_live live site cell at genuine u =
      let v = unit_at f.kind site cell.packet in
      let same : v ≡ numbered_unit (number cell) = ap (λ s. unit_at f.kind s cell.packet) at ∙ ap (unit_at f.kind c.site) genuine.same in
      ap is_some (get-after_packet f site live cell.packet u)
      ∙ by_test (same_unit u v) (finite.get live u)
      ∙ ap (λ q. is_some (finite.get live u) || (same_unit u q || false)) same
    where
      by_test : (t : Bool) (o : Option R) → is_some (cond t (kept_after f site o cell.packet) o) ≡ is_some o || (t || false)
      by_test true o = let transport = genuine.transport in rw transport (or_true (is_some o))
      by_test false o = sym (or-false (is_some o))

  -- packets that are processed in order
  abbrev units_of : List FullCell → List Unit
  units_of cells = map (λ cell. numbered_unit (number cell)) cells

  gains_more : (xs ys : List Note) → gains (xs ++ ys) ≡ gains xs ++ gains ys
  gains_more [] ys = refl
  gains_more (x ∷ xs) ys =
      ap (λ v. gained_by c items f.kind y log x ++ v) (gains_more xs ys) ∙ sym (append_assoc (gained_by c items f.kind y log x) (gains xs) (gains ys))

  abbrev is_in : InstanceState F R → Unit → Bool
  is_in i u = is_some (finite.get i.table.live u)

  live_processed : (i : InstanceState F R) (m : Mark) (cell : FullCell) → is_live m ≡ true → i.site ≡ c.site → Genuine f g cell → (u : Unit)
      → is_in (process_step f i m cell).node u ≡ is_in i u || is_among (numbered_unit (number cell) ∷ []) u
  unfolding process_step
  live_processed i Mark.Plain cell on at genuine u = after_live i.table.live i.site cell at genuine u
  live_processed i (Mark.Pass op) cell on at genuine u = after_live i.table.live i.site cell at genuine u
  live_processed i (Mark.Shared op true) cell on at genuine u = after_live i.table.live i.site cell at genuine u
  live_processed i (Mark.Shared op false) cell on at genuine u = cc

  standby_processed : (i : InstanceState F R) (op : ℕ) (cell : FullCell) → (process_step f i (Mark.Shared op false) cell).node.table.live ≡ i.table.live
  unfolding process_step
  standby_processed i op cell = refl

  processed_gains : (i : InstanceState F R) (m : Mark) (cell : FullCell)
      → gains (process_step f i m cell).notes ≡ (if is_away (numbered_unit (number cell)) then [] else numbered_unit (number cell) ∷ []) ++ []
  unfolding process_step
  processed_gains i m cell = refl

  processed_site : (i : InstanceState F R) (m : Mark) (cell : FullCell) → (process_step f i m cell).node.site ≡ i.site
  unfolding process_step
  processed_site i m cell = refl

  all_live : (i : InstanceState F R) (cells : List FullCell) → i.site ≡ c.site → Each (Genuine f g) cells → (u : Unit)
      → is_in (all_processed f i cells).node u ≡ is_in i u || is_among (units_of cells) u
  unfolding all_processed
  all_live i [] at h u = sym (or-false (is_in i u))
  all_live i (cell ∷ cells) at h u =
      let next = (process_step f i Mark.Plain cell).node in
      let v = numbered_unit (number cell) in
      all_live next cells (processed_site i Mark.Plain cell ∙ at) h.1 u
      ∙ ap (λ t. t || is_among (units_of cells) u) (live_processed i Mark.Plain cell refl at h.0 u)
      ∙ or_assoc (is_in i u) (same_unit u v || false) (is_among (units_of cells) u)
      ∙ ap (λ t. is_in i u || (t || is_among (units_of cells) u)) (sym (sym (or-false (same_unit u v))))

  all_gains : (i : InstanceState F R) (cells : List FullCell)
      → ((k : ℕ) → is_among (units_of cells) (numbered_unit k) ≡ true → is_away (numbered_unit k) ≡ false)
      → gains (all_processed f i cells).notes ≡ units_of cells
  unfolding all_processed
  all_gains i [] free = refl
  all_gains i (cell ∷ cells) free =
      let next = (process_step f i Mark.Plain cell).node in
      let v = numbered_unit (number cell) in
      gains_more (process_step f i Mark.Plain cell).notes (all_processed f next cells).notes
      ∙ ap (λ us. us ++ gains (all_processed f next cells).notes) (processed_gains i Mark.Plain cell ∙ append-nil _
      ∙ own_gain (number cell) (free (number cell) (or_left (same_unit v v) (is_among (units_of cells) v) (same_unit_equiv.refl v))))
      ∙ ap (λ us. v ∷ us) (all_gains next cells (λ k e. free k (or_right (same_unit (numbered_unit k) v) (is_among (units_of cells) (numbered_unit k)) e)))

  -- An instance
  module _ (i : InstanceState F R) (at : i.site ≡ c.site) where
    -- what is live after a step is what was and isn't removed, and what it gains
    abbrev pub Lives : Msg → Step F R → Type 0
    Lives m did = (u : Unit) → is_in did.node u ≡ (is_in i u && not (is_among (removed_by m) u)) || is_among (gains did.notes) u

    -- where it processes packets, no share has a unit elsewhere that is live then
    abbrev pub Free : Step F R → Type 0
    Free did = (k : ℕ) → is_in did.node (numbered_unit k) ≡ true → is_away (numbered_unit k) ≡ false

    -- a step that removes nothing
    grows : (m : Msg) (did : Step F R) (vs : List Unit) → removed_by m ≡ [] → ((u : Unit) → is_in did.node u ≡ is_in i u || is_among vs u)
        → gains did.notes ≡ vs → Lives m did
    grows m did vs none new named u =
        new u
        ∙ ap (λ t. t || is_among vs u) (and_true (is_in i u))
        ∙ ap (λ us. (is_in i u && not (is_among us u)) || is_among vs u) (sym none)
        ∙ ap (λ us. (is_in i u && not (is_among (removed_by m) u)) || is_among us u) (sym named)

    pub stays : (m : Msg) (did : Step F R) → removed_by m ≡ [] → did.node.table.live ≡ i.table.live → gains did.notes ≡ [] → Lives m did
    stays m did none same named = grows m did [] none (λ u. ap (λ t. is_some (finite.get t u)) same ∙ sym (or-false (is_in i u))) named

    -- A packet comes
    module _ (m : Mark) (cell : FullCell) (genuine : Genuine f g cell) where
      abbrev message : Msg
      message = Msg.Carry m cell

      live_carried : is_live m ≡ true → (d : Decide) → Free (carry_step f i m cell d) → Lives message (carry_step f i m cell d)
      live_carried on Decide.Process free =
          let own = live_processed i m cell on at genuine in
          let v = numbered_unit (number cell) in
          let off = free (number cell) (own v ∙ or_right (is_in i v) (same_unit v v || false) (or_left (same_unit v v) false (same_unit_equiv.refl v))) in
          grows message (process_step f i m cell) (v ∷ []) refl own (processed_gains i m cell ∙ append-nil _ ∙ own_gain (number cell) off)
      live_carried on (Decide.ProcessAndEvent op) free =
          let own = live_processed i m cell on at genuine in
          let v = numbered_unit (number cell) in
          let off = free (number cell) (own v ∙ or_right (is_in i v) (same_unit v v || false) (or_left (same_unit v v) false (same_unit_equiv.refl v))) in
          grows message (and_then (process_step f i m cell) (λ j. tell_step j (Msg.Seen op cell.packet))) (v ∷ []) refl own
          (ap gains (append-nil (process_step f i m cell).notes) ∙ processed_gains i m cell ∙ append-nil _ ∙ own_gain (number cell) off)
      live_carried on (Decide.Event op) free = stays message (carry_step f i m cell (Decide.Event op)) refl refl refl
      live_carried on (Decide.Buffer op) free = stays message (carry_step f i m cell (Decide.Buffer op)) refl refl refl

      pub carry_lives : is_live m ≡ true → Free (on_carry f i m cell) → Lives message (on_carry f i m cell)
      unfolding on_carry
      carry_lives on free = live_carried on (rules.decide i.rules (flow_of i.site cell.packet).0 m) free

    -- one of a share, away from its home
    away_carried : (op : ℕ) (cell : FullCell) → is_away (numbered_unit (number cell)) ≡ true → (d : Decide)
        → Lives (Msg.Carry (Mark.Shared op false) cell) (carry_step f i (Mark.Shared op false) cell d)
    away_carried op cell on Decide.Process = stays (Msg.Carry (Mark.Shared op false) cell) (process_step f i (Mark.Shared op false) cell) refl
        (standby_processed i op cell) (processed_gains i (Mark.Shared op false) cell ∙ append-nil _ ∙ no_gain (number cell) on)
    away_carried op cell on (Decide.ProcessAndEvent k) = stays (Msg.Carry (Mark.Shared op false) cell)
        (and_then (process_step f i (Mark.Shared op false) cell) (λ j. tell_step j (Msg.Seen k cell.packet))) refl (standby_processed i op cell)
        (ap gains (append-nil (process_step f i (Mark.Shared op false) cell).notes) ∙ processed_gains i (Mark.Shared op false) cell ∙ append-nil _
        ∙ no_gain (number cell) on)
    away_carried op cell on (Decide.Event k) =
        stays (Msg.Carry (Mark.Shared op false) cell) (carry_step f i (Mark.Shared op false) cell (Decide.Event k)) refl refl refl
    away_carried op cell on (Decide.Buffer k) =
        stays (Msg.Carry (Mark.Shared op false) cell) (carry_step f i (Mark.Shared op false) cell (Decide.Buffer k)) refl refl refl

    pub away_lives : (op : ℕ) (cell : FullCell) → is_away (numbered_unit (number cell)) ≡ true
        → Lives (Msg.Carry (Mark.Shared op false) cell) (on_carry f i (Mark.Shared op false) cell)
    unfolding on_carry
    away_lives op cell on = away_carried op cell on (rules.decide i.rules (flow_of i.site cell.packet).0 (Mark.Shared op false))

    -- a fence lets go what is held
    pub fence_lives : (op : ℕ) → Each (Genuine f g) (rules.held_at i.rules op) → Free (on_fence f i op) → Lives (Msg.Fence op) (on_fence f i op)
    unfolding on_fence
    fence_lives op genuine free =
        let before = record i { rules = rules.without_rule i.rules op } in
        let cells = rules.held_at i.rules op in
        let all = all_processed f before cells in
        let new = all_live before cells at genuine in
        grows (Msg.Fence op) (and_then all (λ j. tell_step j (Msg.Fenced op))) (units_of cells) refl new
        (ap gains (append-nil all.notes) ∙ all_gains before cells
        (λ k e. free k (new (numbered_unit k) ∙ or_right (is_in i (numbered_unit k)) (is_among (units_of cells) (numbered_unit k)) e)))

    pub delete_lives : (op : ℕ) (gone : List Unit) → Lives (Msg.Delete op gone) (instance_step f i (Msg.Delete op gone))
    delete_lives op gone u = ap is_some (get-without gone i.table.live u) ∙ taken_out (is_among gone u) (finite.get i.table.live u)

    -- Chunks that come in
    joined_lives : (choose : R → R → R) (chunks : List Chunk) → AreGoodChunks f g chunks → (u : Unit)
        → is_some (finite.get (union_of choose i.table.live (records_of f chunks)) u) ≡ is_in i u || is_among (units_in chunks) u
    joined_lives choose chunks good u =
        ap is_some (get-joined choose i.table.live (records_of f chunks) u)
        ∙ some_either choose (finite.get i.table.live u) (finite.get (records_of f chunks) u)
        ∙ ap (λ o. is_in i u || is_some o) (brought_is f chunks u)
        ∙ ap (λ t. is_in i u || t) (sym (good_units f g u chunks good))

    -- chunks of a run are good, so what comes of them is done
    where_lives : (m : Msg) (chunks : List Chunk) (taken : Step F R) → AreGoodChunks f g chunks → Lives m taken → Lives m (where_good f i chunks taken)
    where_lives m chunks taken good h = subst (λ b. Lives m (if b then taken else still i)) (sym (chunks_good f laws g chunks good)) h

    put_piece : (op : ℕ) (piece : Piece) (first answered : Bool) (o : Option Answer) → IsGoodPiece f g piece
        → Lives (Msg.Put op piece first) (piece_put f i op piece answered o)
    put_piece op piece first answered (Some why) good = stays (Msg.Put op piece first) (piece_put f i op piece answered (Some why)) refl refl refl
    put_piece op piece first answered None good =
        let taken : Step F R = record {
          node = with_live f i piece.chunks;
          sends = to_controller (if answered then Msg.PutOk op ∷ [] else []);
          notes = imported i op piece.chunks ∷ [];
        } in
        where_lives (Msg.Put op piece first) piece.chunks taken good.good (grows (Msg.Put op piece first) taken (units_in piece.chunks) refl
        (joined_lives (newest f) piece.chunks good.good) (append-nil (units_in piece.chunks)))

    pub put_lives : (op : ℕ) (piece : Piece) (first : Bool) → IsGoodPiece f g piece → Lives (Msg.Put op piece first) (on_put f i op piece first)
    unfolding on_put
    put_lives op piece first good =
        let few = good.few in rw few (put_piece op piece first (first || piece.last) (if first then piece_refusal i piece else None) good)

    pub restore_lives : (op : ℕ) (chunks : List Chunk) → AreGoodChunks f g chunks → Lives (Msg.Restore op chunks) (on_restore f i op chunks)
    unfolding on_restore
    restore_lives op chunks good =
        let taken : Step F R = tells_and_notes (with_live f i chunks) (Msg.Restored op) (imported i op chunks) in
        where_lives (Msg.Restore op chunks) chunks taken good
        (grows (Msg.Restore op chunks) taken (units_in chunks) refl (joined_lives (newest f) chunks good) (append-nil (units_in chunks)))

    kept_gains : (op : ℕ) (us : List Unit) (t : Bool) → is_first_of c items (order_numbered items op) y ≡ t
        → (if is_first_of c items (order_numbered items op) y then us else []) ++ [] ≡ (if t then us else [])
    kept_gains op us t e = append-nil _ ∙ ap (λ b. if b then us else []) e

    pub standby_lives : (op : ℕ) (chunks : List Chunk) → AreGoodChunks f g chunks → is_first_of c items (order_numbered items op) y ≡ false
        → Lives (Msg.Standby op chunks) (on_standby f i op chunks)
    unfolding on_standby
    standby_lives op chunks good off =
        let taken : Step F R = tells_and_notes (with_standby f i chunks) (Msg.Kept op) (keep_note i op chunks) in
        where_lives (Msg.Standby op chunks) chunks taken good (stays (Msg.Standby op chunks) taken refl refl (kept_gains op (units_in chunks) false off))

    pub sync_lives : (home : Bool) (op : ℕ) (chunks : List Chunk) → AreGoodChunks f g chunks → is_first_of c items (order_numbered items op) y ≡ home
        → Lives (Msg.Sync home op chunks) (on_sync f i home op chunks)
    unfolding on_sync
    sync_lives true op chunks good e =
        let taken : Step F R = tells_and_notes (with_records f i true chunks) (Msg.Synced op) (keep_note i op chunks) in
        where_lives (Msg.Sync true op chunks) chunks taken good (grows (Msg.Sync true op chunks) taken (units_in chunks) refl
        (joined_lives (λ held coming. coming) chunks good) (kept_gains op (units_in chunks) true e))
    sync_lives false op chunks good e =
        let taken : Step F R = tells_and_notes (with_records f i false chunks) (Msg.Synced op) (keep_note i op chunks) in
        where_lives (Msg.Sync false op chunks) chunks taken good (stays (Msg.Sync false op chunks) taken refl refl (kept_gains op (units_in chunks) false e))

    -- What moves no live record
    pub stream_lives : (op : ℕ) (filter : Filter) → Lives (Msg.Stream op filter) (on_stream f i op filter)
    unfolding on_stream
    stream_lives op filter = stays (Msg.Stream op filter) (on_stream f i op filter) refl refl refl

    pub get_lives : (op : ℕ) (filter : Filter) → Lives (Msg.Get op filter) (on_get f i op filter)
    unfolding on_get
    get_lives op filter = stays (Msg.Get op filter) (on_get f i op filter) refl refl refl

    pub put_all_lives : (op : ℕ) (chunk : Chunk) → Lives (Msg.PutAll op chunk) (on_put_all f i op chunk)
    unfolding on_put_all
    put_all_lives op chunk = elim (tally_read f.kind chunk.bytes) as (λ r. Lives (Msg.PutAll op chunk) (tally_put i op r)) [
      | Ok slots ↦ stays (Msg.PutAll op chunk) (tally_put i op (Ok slots)) refl refl refl
      | Err fault ↦ stays (Msg.PutAll op chunk) (tally_put i op (Err fault)) refl refl refl
    ]
