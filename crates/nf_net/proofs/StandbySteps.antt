-- A choice of a run leaves what stands by at each instance, or lets it see more of what was processed of its unit: an instance's step by its message.
use Rattle.nf_net.proofs.Words.{◌≡◌, ◌≢◌, ℕ, zero, suc, ◌+◌, ◌<◌, ◌≤◌, Bool, true, false, Option, Some, None, List, [], ◌∷◌, ◌++◌, length, get_or, refl, sym}
use Rattle.nf_net.proofs.Words.{ap, ◌∙◌, subst, arith, ◌&&◌, ◌==◌, nat_lt, slice_get, filter_map, nat_tests, Decides-eqb, slice_get-get_or, slice_get_past}
use Rattle.nf_net.proofs.Words.{Filter, Chunk, units_total, Fits, newest, Semantics, either, newest_of, each_newest, FullCell, Msg, Note, instance_node}
use Rattle.nf_net.proofs.Words.{InstanceState, instance_step, Choice, Network, queue_at, world_next, at, Takes, Outcome, taken_outcome, Taking, EachOn}
use Rattle.nf_net.proofs.Words.{record_at, New, ShareMsg, Shared_on, member_step, ran_of, Sees_more, Node, most_counted, dones_in, node_step, node_ready}
use Rattle.nf_net.proofs.Words.{processed_of, standby_in, standby_at, done-append, number, entries, ran_in, is_sys, is_sharing, standby_keeps, HasBeside}
use Rattle.nf_net.proofs.Words.{its_takes, its_taken, Given, place, chunks_good, Rows, by_message, S, A, shown, by_node, came_by, node_of, Genuine}
use Rattle.nf_net.proofs.Words.{AreGoodChunks, Scene, IsInstanceAt, AreShown, IsTaken, Joined, by_node-append, given, all_fit, Unit, Mark, records_of, Instance}
use Rattle.nf_net.proofs.Words.{split, Setting, instance_quiet}
use Rattle.std.specs.FinMap as finite
use Rattle.instance_worker.specs.Instance.{Step, on_get}
use Rattle.proof_machines.proofs.net.Net.{at_node}
use Rattle.proof_machines.proofs.net.Shares.{whole_inst}
use Rattle.proof_machines.proofs.whole.SeesMore.{inst_sees}
use Rattle.net_world.specs.Fold.{fold}
use Rattle.proof_outlines.proofs.whole.InstanceWorlds.{ShowsAt, new_steps}
use Rattle.proof_outlines.proofs.whole.MemberOutline.{MemberFollows, shared_follows, sync_follows}
use Rattle.proof_outlines.proofs.whole.StandbyKept.{leaves_standby, step_unshared}
use Rattle.proof_outlines.proofs.joined.InstanceNotes.{AreOwn, done_own}
use Rattle.proof_outlines.proofs.joined.InstanceRows.{IsRight, sound_part}
use Rattle.proof_outlines.proofs.joined.StandbyChunks.{AreFronted}
use Rattle.proof_outlines.proofs.joined.StandbyFronts.{kept_of, AreKeptFronts}
use Rattle.nf_net.proofs.FrontLemmas.{longer}
use Rattle.nf_net.proofs.StandbyFronts.{IsOfFront, SeesMore, sees_same, later, of_front, sees_more, instance_front, stands_front}

-- two lists of one length that are read the same at a place
pub same_place : {X : Type 0} (xs ys : List X) (i : ℕ) → length xs ≡ length ys → ((d : X) → get_or ys i d ≡ get_or xs i d) → slice_get ys i ≡ slice_get xs i
same_place [] [] i long same = refl
same_place [] (y ∷ ys) i long same = absurd (omega (arith, long))
same_place {X} (x ∷ xs) ys i long same = split (nat_lt i (length ys)) (λ _. slice_get ys i ≡ slice_get (x ∷ xs) i)
    (λ on.
    let within : i < length ys = grind (arith, nat_tests, on) in
    slice_get-get_or ys i x within ∙ ap Some (same x) ∙ sym (slice_get-get_or (x ∷ xs) i x (rw long within)))
    (λ off.
    let past : length ys ≤ i = grind (arith, nat_tests, off) in
    slice_get_past ys i past ∙ sym (slice_get_past (x ∷ xs) i (rw long past)))

module _ {F R : Type 0} (f : Semantics R) where
  get_leaves : (i : InstanceState F R) (op : ℕ) (filter : Filter) → (instance_step f i (Msg.Get op filter)).node.table.standby ≡ i.table.standby
  unfolding on_get
  get_leaves i op filter = refl

module _ {R : Type 0} (f : Semantics R) where
  -- what chunks bring of a unit
  pub brought_is : (chunks : List Chunk) (u : Unit) → finite.get (records_of f chunks) u ≡ record_at u (entries f chunks)
  unfolding records_of
  brought_is chunks u = finite.get-from_entries units_total (entries f chunks) u

-- An instance's step.
module _ {F R : Type 0} (setting : Setting F R) (n : ℕ) (x : Scene F setting.function (given setting)) (are : AreShown setting.function (given setting) n x)
    (p y : ℕ) (at : IsInstanceAt setting.function (given setting) (suc (suc y)) (x.nodes.instance (suc (suc y))) x.world) where
  open setting use {function as f, laws, config as c, items}

  abbrev g : Given
  g = given setting

  abbrev fitting : (number : ℕ) → Fits g.site (g.packet number)
  fitting = all_fit setting

  abbrev k : ℕ
  k = suc (suc y)

  two : 2 ≤ k
  two = omega arith

  k0 : (k == 0) ≡ false
  k0 = grind (arith, nat_tests)

  k1 : (k == 1) ≡ false
  k1 = grind (arith, nat_tests)

  abbrev i : InstanceState F R
  i = x.nodes.instance k

  abbrev IsTakenHere : Msg → Type 0
  IsTakenHere m = IsTaken f g n x (record { node = k; port = p; message = m })

  abbrev all_of : Unit → List Note → List ℕ
  all_of u notes = processed_of f c items u (x.log ++ notes)

  -- what the step leaves of the unit
  abbrev Sees : Unit → Step F R → Type 0
  Sees u did = SeesMore f c items (all_of u did.notes) (finite.get i.table.standby u) (finite.get did.node.table.standby u)

  -- no more was then processed of the unit than a record counts, and a copy's chunks are of fronts
  abbrev Room : Unit → Step F R → Type 0
  Room u did = length (all_of u did.notes) ≤ most_counted

  abbrev Now : Unit → Msg → Type 0
  Now u m = IsTakenHere m → AreFronted f g x.world (kept_of m) → Room u (instance_step f i m) → Sees u (instance_step f i m)

  right : IsRight f g k i
  right = record { rules = at.rules; held = at.held; sound = at.records.sound; number = at.number }

  shows : ShowsAt f g.site g.packet k x.world i
  shows = record { inst = at.outline_is; standby = at.standby_is }

  held_front : (u : Unit) (notes : List Note) → IsOfFront f c items (all_of u notes) (finite.get i.table.standby u)
  held_front u notes = later f c items u x.log notes (finite.get i.table.standby u) (instance_front setting n x are k at u)

  same_sees : (u : Unit) (did : Step F R) → did.node.table.standby ≡ i.table.standby → Sees u did
  same_sees u did same = subst (λ t. SeesMore f c items (all_of u did.notes) (finite.get i.table.standby u) (finite.get t u)) (sym same)
      (sees_same f c items (all_of u did.notes) (finite.get i.table.standby u) (held_front u did.notes))

  leaves : (u : Unit) (m : Msg) → leaves_standby m ≡ true → Now u m
  leaves u m e t fronts room = same_sees u (instance_step f i m) (step_unshared f (place g) i m e).standby

  -- a message of a share, as the whole world takes it
  new_sees : (u : Unit) (m : Msg) (seen : ShareMsg R) → shown f g m ≡ Some (New seen) → IsTakenHere m
      → MemberFollows f g.site g.packet (place g) i (instance_step f i m) (member_step (S f g) (A f g) i.table.live i.table.standby seen)
      → AreOwn k (instance_step f i m).notes → Sees u (instance_step f i m)
  new_sees u m seen shown_as t follows own =
      let did = instance_step f i m in
      let off : (p == 0) && (k == 0) ≡ false = grind (arith, nat_tests) in
      let waits = t.head off (New seen) shown_as in
      let v = whole_inst (S f g) (A f g) x.world p k (New seen) in
      let steps = new_steps f g.site g.packet (place g) x.world p k i did seen shows follows in
      let log : v.done ≡ by_node f g (dones_in (x.log ++ did.notes)) =
      steps.done ∙ ap (λ ds. ds ++ at_node k (filter_map ran_in did.notes)) are.done_is
      ∙ ap (λ ds. by_node f g (dones_in x.log) ++ ds) (sym (done_own f g k did.notes own))
      ∙ sym (ap (by_node f g) (done-append x.log did.notes) ∙ by_node-append f g (dones_in x.log) (dones_in did.notes)) in
      let sees = inst_sees (S f g) (A f g) (is_sys f g.site g.packet) u (is_sharing f g.site g.packet) x.world (came_by f g x.log u) are.every.global p k
      t.rest k0 k1 (are.every.unit u) (are.every.fronts u) (New seen) waits k in
      sees_more setting u (x.log ++ did.notes) v.done log (finite.get i.table.standby u) (finite.get did.node.table.standby u)
      (subst (λ o. Sees_more (S f g) (A f g) (is_sys f g.site g.packet) u (ran_of (S f g) (A f g) u v.done) o (finite.get did.node.table.standby u))
      (sym (ap (λ r. finite.get r u) shows.standby))
      (subst (λ o. Sees_more (S f g) (A f g) (is_sys f g.site g.packet) u (ran_of (S f g) (A f g) u v.done) (finite.get (x.world.standby k) u) o)
      (sym (ap (λ r. finite.get r u) steps.shows.standby)) sees))

  shared_sees : (u : Unit) (op : ℕ) (home : Bool) (cell : FullCell) → Genuine f g cell → Now u (Msg.Carry (Mark.Shared op home) cell)
  shared_sees u op home cell e t fronts room =
      new_sees u (Msg.Carry (Mark.Shared op home) cell) (Shared_on op home (number cell)) refl t
      (shared_follows f laws g.site g.packet (place g) i op home cell right.rules e (sound_part f laws g fitting k two i home cell right at.stands.sound e))
      (i.index, right.number, instance_quiet f i (Msg.Carry (Mark.Shared op home) cell))

  sync_sees : (u : Unit) (home : Bool) (op : ℕ) (chunks : List Chunk) → AreGoodChunks f g chunks → Now u (Msg.Sync home op chunks)
  sync_sees u home op chunks good t fronts room =
      new_sees u (Msg.Sync home op chunks) (ShareMsg.Sync op home (entries f chunks)) refl t
      (sync_follows f laws g.site g.packet (place g) i home op chunks (chunks_good f laws g chunks good))
      (i.index, right.number, instance_quiet f i (Msg.Sync home op chunks))

  -- a copy's chunks: the newer of what stands by and what comes is that of the longer front
  newest_sees : (u : Unit) (all : List ℕ) (held coming : Option R) → length all ≤ most_counted → IsOfFront f c items all held
      → IsOfFront f c items all coming → SeesMore f c items all held (either (newest f) held coming)
  newest_sees u all held coming few h b =
      let it = longer setting all few h.front b.front h.is_front b.is_front in
      record {
        before = h.front;
        since = it.front;
        old_is = h.folds;
        new_is = sym it.kept ∙ ap (λ o. either (newest f) o (fold f c items None b.front)) h.folds ∙ ap (either (newest f) held) b.folds;
        behind = it.behind;
        within = it.is_front;
      }

  standby_sees : (u : Unit) (op : ℕ) (chunks : List Chunk) → AreGoodChunks f g chunks → Now u (Msg.Standby op chunks)
  standby_sees u op chunks good t fronts room =
      let did = instance_step f i (Msg.Standby op chunks) in
      let held = finite.get i.table.standby u in
      let coming = finite.get (records_of f chunks) u in
      let new : did.node.table.standby ≡ newest_of f i.table.standby (records_of f chunks) =
      (standby_keeps f g.site g.packet (place g) i op chunks (chunks_good f laws g chunks good)).standby in
      let is_new : finite.get did.node.table.standby u ≡ either (newest f) held coming = ap (λ r. finite.get r u) new
      ∙ each_newest f i.table.standby (records_of f chunks) (newest_of f i.table.standby (records_of f chunks)) refl u in
      let of_chunks : IsOfFront f c items (processed_of f c items u x.log) coming = subst (λ o. IsOfFront f c items (processed_of f c items u x.log) o)
      (sym (brought_is f chunks u)) (of_front setting u x.log x.world.done are.done_is (record_at u (entries f chunks)) (fronts u)) in
      subst (λ o. SeesMore f c items (all_of u did.notes) held o) (sym is_new)
      (newest_sees u (all_of u did.notes) held coming room (held_front u did.notes) (later f c items u x.log did.notes coming of_chunks))

  rows : (u : Unit) → Rows f g (Now u)
  rows u = record {
    carry = λ cell e. leaves u (Msg.Carry Mark.Plain cell) refl;
    pass = λ op cell e. leaves u (Msg.Carry (Mark.Pass op) cell) refl;
    shared = λ op home cell e. shared_sees u op home cell e;
    fence = λ op. leaves u (Msg.Fence op) refl;
    stop = leaves u Msg.Stop refl;
    enable = λ op filter act w e. leaves u (Msg.Enable op filter act) refl;
    stream = λ op filter w. leaves u (Msg.Stream op filter) refl;
    delete = λ op gone. leaves u (Msg.Delete op gone) refl;
    put = λ op piece first e. leaves u (Msg.Put op piece first) refl;
    restore = λ op chunks e. leaves u (Msg.Restore op chunks) refl;
    get = λ op filter w t fronts room. same_sees u (instance_step f i (Msg.Get op filter)) (get_leaves f i op filter);
    get_all = λ op. leaves u (Msg.GetAll op) refl;
    standby = λ op chunks e. standby_sees u op chunks e;
    put_all = λ op chunk. leaves u (Msg.PutAll op chunk) refl;
    sync = λ home op chunks e. sync_sees u home op chunks e;
  }

  pub instance_sees : (u : Unit) (m : Msg) → Now u m
  instance_sees u m t = by_message f g (Now u) p y (rows u) m t.label t

-- A choice of a run.
module _ {F R : Type 0} (setting : Setting F R) where
  open setting use {function as f, laws, config as c, items}

  abbrev gn : Given
  gn = given setting

  abbrev nodes_count : ℕ
  nodes_count = length c.names + 2

  -- what stands by sees more from one world to the next
  abbrev pub GoesOn : Network (Node F R) Msg Note → Network (Node F R) Msg Note → Type 0
  GoesOn w v = (i : ℕ) (u : Unit) → SeesMore f c items (processed_of f c items u v.log) (standby_at w i u) (standby_at v i u)

  module _ (w : Network (Node F R) Msg Note) (j : Joined f gn nodes_count w) (fronts : AreKeptFronts f gn nodes_count w j) (p : ℕ) (rest : List Msg) where
    abbrev x : Scene F f gn
    x = record { nodes = j.nodes; world = j.world; log = w.log; input = queue_at w (at 0 0) }

    module _ (k : ℕ) (m : Msg) (takes : Takes (node_step f) nodes_count w k p (node_of j.nodes k) m rest) where
      abbrev v : Network (Node F R) Msg Note
      v = world_next (node_step f) w (at k p)

      abbrev log : List Note
      log = w.log ++ (node_step f (node_of j.nodes k) p m).notes

      left : Outcome (node_step f) nodes_count w k p (node_of j.nodes k) m rest v
      left = taken_outcome (node_step f) nodes_count w k p (node_of j.nodes k) m rest takes

      -- a copy's chunks are of fronts
      its : AreFronted f gn j.world (kept_of m)
      its = (subst (λ ms. EachOn (λ y. AreFronted f gn j.world (kept_of y)) ms) takes.waits
          (fronts.each p k (let count = takes.count in rw count takes.sender) (let count = takes.count in rw count takes.receiver))).0

      -- another instance
      stays : (i : ℕ) → instance_node i ≢ k → (u : Unit) → SeesMore f c items (processed_of f c items u v.log) (standby_at w i u) (standby_at v i u)
      stays i off u =
          let same : standby_at v i u ≡ standby_at w i u = ap (standby_in u)
          (same_place w.nodes v.nodes (instance_node i) (takes.count ∙ sym left.count) (λ d. left.others (instance_node i) d off)) in
          subst (λ l. SeesMore f c items (processed_of f c items u l) (standby_at w i u) (standby_at v i u)) (sym left.log)
          (subst (λ o. SeesMore f c items (processed_of f c items u log) (standby_at w i u) o) (sym same)
          (sees_same f c items (processed_of f c items u log) (standby_at w i u) (later f c items u w.log (node_step f (node_of j.nodes k) p m).notes
          (standby_at w i u) (stands_front setting nodes_count w takes.count j i u))))

    module _ (y : ℕ) (m : Msg) (takes : Takes (node_step f) nodes_count w (suc (suc y)) p (node_of j.nodes (suc (suc y))) m rest)
        (t : IsTaken f gn nodes_count x (record { node = suc (suc y); port = p; message = m }))
        (room : (u : Unit) → length (processed_of f c items u (world_next (node_step f) w (at (suc (suc y)) p)).log) ≤ most_counted) where
      abbrev own : InstanceState F R
      own = j.nodes.instance (suc (suc y))

      abbrev did : Step F R
      did = instance_step f own m

      node_is : instance_node y ≡ suc (suc y)
      node_is = omega arith

      there : slice_get w.nodes (instance_node y) ≡ Some (Instance own)
      there = subst (λ z. slice_get w.nodes z ≡ Some (Instance own)) (sym node_is) (slice_get-get_or w.nodes (suc (suc y)) (Instance own)
          (let small = takes.receiver in let count = takes.count in rw count small) ∙ ap Some (j.nodes_are (suc (suc y)) takes.receiver (Instance own)))

      after : slice_get (v (suc (suc y)) m takes).nodes (instance_node y) ≡ Some (Instance did.node)
      after =
          let out = left (suc (suc y)) m takes in
          subst (λ z. slice_get (v (suc (suc y)) m takes).nodes z ≡ Some (Instance did.node)) (sym node_is)
          (slice_get-get_or (v (suc (suc y)) m takes).nodes (suc (suc y)) (Instance did.node) (let small = takes.receiver in
          let count = out.count in rw count small) ∙ ap Some (out.own (Instance did.node)))

      own_sees : (u : Unit)
          → SeesMore f c items (processed_of f c items u (v (suc (suc y)) m takes).log) (standby_at w y u) (standby_at (v (suc (suc y)) m takes) y u)
      own_sees u =
          let out = left (suc (suc y)) m takes in
          let sees = instance_sees setting nodes_count x j.shown_is p y (j.shown_is.instances (suc (suc y)) (omega arith) takes.receiver) u m t
          (its (suc (suc y)) m takes) (subst (λ l. length (processed_of f c items u l) ≤ most_counted) out.log (room u)) in
          subst (λ l. SeesMore f c items (processed_of f c items u l) (standby_at w y u) (standby_at (v (suc (suc y)) m takes) y u)) (sym out.log)
          (subst (λ o. SeesMore f c items (processed_of f c items u (w.log ++ did.notes)) o (standby_at (v (suc (suc y)) m takes) y u))
          (sym (ap (standby_in u) there))
          (subst (λ o. SeesMore f c items (processed_of f c items u (w.log ++ did.notes)) (finite.get own.table.standby u) o)
          (sym (ap (standby_in u) after)) sees))

      at_instance : GoesOn w (v (suc (suc y)) m takes)
      at_instance i u = split (i == y)
          (λ _. SeesMore f c items (processed_of f c items u (v (suc (suc y)) m takes).log) (standby_at w i u) (standby_at (v (suc (suc y)) m takes) i u))
          (λ on. subst (λ z. SeesMore f c items (processed_of f c items u (v (suc (suc y)) m takes).log) (standby_at w z u)
          (standby_at (v (suc (suc y)) m takes) z u)) (sym ((Decides-eqb i y).0 on)) (own_sees u))
          (λ off. stays (suc (suc y)) m takes i
          (λ e. (let bad : i ≡ y = omega (arith, e) in let never : true ≡ false = sym ((Decides-eqb i y).1 bad) ∙ off in cc)) u)

    each_goes : (k : ℕ) (m : Msg) (takes : Takes (node_step f) nodes_count w k p (node_of j.nodes k) m rest)
        → IsTaken f gn nodes_count x (record { node = k; port = p; message = m })
        → ((u : Unit) → length (processed_of f c items u (world_next (node_step f) w (at k p)).log) ≤ most_counted)
        → GoesOn w (world_next (node_step f) w (at k p))
    each_goes zero m takes t room = λ i u. stays 0 m takes i (λ e. absurd (omega (arith, e))) u
    each_goes (suc zero) m takes t room = λ i u. stays 1 m takes i (λ e. absurd (omega (arith, e))) u
    each_goes (suc (suc y)) m takes t room = at_instance y m takes t room

  -- after which no more was processed of a unit than a record counts
  pub goes_on : (w : Network (Node F R) Msg Note) (d : Choice) → Taking node_ready (node_step f) nodes_count w d → (j : Joined f gn nodes_count w)
      → HasBeside f gn nodes_count w j → ((u : Unit) → length (processed_of f c items u (world_next (node_step f) w d).log) ≤ most_counted)
      → GoesOn w (world_next (node_step f) w d)
  goes_on w d t j b room = each_goes w j b.kept.fronts d.port t.rest d.node t.message
      (its_takes f laws gn (all_fit setting) nodes_count refl w d t j b) (its_taken f laws gn (all_fit setting) nodes_count refl w d t j b) room
