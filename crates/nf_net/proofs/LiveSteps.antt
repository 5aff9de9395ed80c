-- In a step of a run an instance leaves live what the history says: what was and isn't removed, and what it gains by what it notes.
use Rattle.nf_net.proofs.Words.{◌≡◌, ℕ, suc, ◌+◌, ◌<◌, Bool, true, false, List, [], ◌∷◌, ◌++◌, length, refl, ap, ◌∙◌, arith, ◌&&◌, ◌||◌, ◌==◌, not}
use Rattle.nf_net.proofs.Words.{option_map_or, list_any, nat_tests, Chunk, same_unit_equiv, FullCell, Msg, Note, instance_node, InstanceState, instance_step}
use Rattle.nf_net.proofs.Words.{Network, queue_at, Each, New, Shared_on, ShareMsg, Config, Node, order_numbered, before_begun, is_first_of, is_shared_away}
use Rattle.nf_net.proofs.Words.{has_begun, installs_in, begins_in, first_owner, is_home, owner_after, shared_among, unit_numbered, held_genuine, number}
use Rattle.nf_net.proofs.Words.{entries, Given, Rows, by_message, Genuine, IsInstanceAt, IsTaken, Joined, Scene, AllApart, installed_quiet, IsQuiet, given}
use Rattle.nf_net.proofs.Words.{Unit, Mark, Setting}
use Rattle.actor_net.proofs.EnabledChoices.{at as at_node}
use Rattle.nf_net.proofs.RunWords.{HomesOwn, Busy, units_fit}
use Rattle.proof_outlines.proofs.joined.OwnerLemmas.{begun_quiet}
use Rattle.nf_net.proofs.LiveRows.{stays, Lives, Free, carry_lives, away_lives, fence_lives, delete_lives, put_lives, restore_lives, standby_lives, sync_lives}
use Rattle.nf_net.proofs.LiveRows.{stream_lives, get_lives, put_all_lives}
use Rattle.nf_net.proofs.LiveShares.{away_marked, first_synced}
use Rattle.nf_net.proofs.ShareOwners.{OwnersStay, installed_before}

same_begun : (these those : ℕ → Bool) → ((op : ℕ) → these op ≡ those op) → (log : List Note) → has_begun these log ≡ has_begun those log
same_begun these those same log = along (begins_in log)
  where
    along : (ops : List ℕ) → list_any these ops ≡ list_any those ops
    along [] = refl
    along (op ∷ ops) = ap (λ t. t || list_any these ops) (same op) ∙ ap (λ t. those op || t) (along ops)

-- what an instance notes changes nothing of which share has a unit
pub away_quiet : (c : Config) (items : List Msg) (u : Unit) (y k : ℕ) (xs ys : List Note) → Each (IsQuiet k) ys
    → is_shared_away c items u y (xs ++ ys) ≡ is_shared_away c items u y xs
away_quiet c items u y k xs ys quiet =
    same_begun (covers_at (xs ++ ys)) (covers_at xs) each (xs ++ ys) ∙ begun_quiet (covers_at xs) k xs ys quiet
  where
    by_owner : ℕ → List ℕ → Bool
    by_owner op ops = option_map_or (λ members. not (is_home c.names (order_numbered items) members y)) (shared_among c.names (order_numbered items) u
        (order_numbered items op) (owner_after c.names (order_numbered items) u (first_owner u c.routes) ops)) false

    covers_at : List Note → ℕ → Bool
    covers_at log op = by_owner op (installs_in (before_begun op log))

    each : (op : ℕ) → covers_at (xs ++ ys) op ≡ covers_at xs op
    each op = ap (by_owner op) (installed_before op xs ys (installed_quiet k ys quiet))

module _ {F R : Type 0} (setting : Setting F R) (n : ℕ) (count_is : n ≡ length setting.config.names + 2) (w : Network (Node F R) Msg Note)
    (j : Joined setting.function (given setting) n w) (apart : AllApart j.nodes.controller.operations) (b : Busy (given setting) w)
    (told : HomesOwn setting n count_is w j) (kept : OwnersStay setting.function setting.config setting.items w.log) (p y : ℕ) (few : suc (suc y) < n) where
  open setting use {function as f, config as c, items}

  abbrev g : Given
  g = given setting

  abbrev scene : Scene F f g
  scene = record { nodes = j.nodes; world = j.world; log = w.log; input = queue_at w (at_node 0 0) }

  abbrev k : ℕ
  k = suc (suc y)

  abbrev i : InstanceState F R
  i = j.nodes.instance k

  at : IsInstanceAt f g k i j.world
  at = j.shown_is.instances k (omega arith) few

  pub site : i.site ≡ c.site
  site = at.rules.at

  not_input : (p == 0) && (k == 0) ≡ false
  not_input = grind (arith, nat_tests)

  no_input : (p == 0) && (instance_node y == 0) ≡ false
  no_input = grind (arith, nat_tests)

  node_is : instance_node y ≡ k
  node_is = omega arith

  abbrev IsTakenHere : Msg → Type 0
  IsTakenHere m = IsTaken f g n scene (record { node = k; port = p; message = m })

  -- a copy's chunks are of no share
  abbrev pub OfCopy : Msg → Type 0
  OfCopy m = (op : ℕ) (chunks : List Chunk) → m ≡ Msg.Standby op chunks → is_first_of c items (order_numbered items op) y ≡ false

  abbrev Now : Msg → Type 0
  Now m = IsTakenHere m → OfCopy m → Free setting y w.log i site (instance_step f i m) → Lives setting y w.log i site m (instance_step f i m)

  shared_lives : (op : ℕ) (home : Bool) (cell : FullCell) → Genuine f g cell → Now (Msg.Carry (Mark.Shared op home) cell)
  shared_lives op true cell e t copied free = carry_lives setting y w.log i site (Mark.Shared op true) cell e refl free
  shared_lives op false cell e t copied free =
      let u = unit_numbered c items f.kind (number cell) in
      away_lives setting y w.log i site op cell
      (away_marked setting n count_is w j apart b u (units_fit setting (number cell)) kept told p y op (number cell) t.rest no_input
      (ap (j.world.link p) node_is ∙ t.head not_input (New (Shared_on op false (number cell))) refl) (same_unit_equiv.refl u))

  rows : Rows f g Now
  rows = record {
    carry = λ cell e t copied free. carry_lives setting y w.log i site Mark.Plain cell e refl free;
    pass = λ op cell e t copied free. carry_lives setting y w.log i site (Mark.Pass op) cell e refl free;
    shared = shared_lives;
    fence = λ op t copied free. fence_lives setting y w.log i site op (held_genuine g.site g.packet op i.rules at.rules.held) free;
    stop = λ t copied free. stays setting y w.log i site Msg.Stop (instance_step f i Msg.Stop) refl refl refl;
    enable = λ op filter act whole ruled t copied free. stays setting y w.log i site (Msg.Enable op filter act)
        (instance_step f i (Msg.Enable op filter act)) refl refl refl;
    stream = λ op filter whole t copied free. stream_lives setting y w.log i site op filter;
    delete = λ op gone t copied free. delete_lives setting y w.log i site op gone;
    put = λ op piece first good t copied free. put_lives setting y w.log i site op piece first good;
    restore = λ op chunks good t copied free. restore_lives setting y w.log i site op chunks good;
    get = λ op filter whole t copied free. get_lives setting y w.log i site op filter;
    get_all = λ op t copied free. stays setting y w.log i site (Msg.GetAll op) (instance_step f i (Msg.GetAll op)) refl refl refl;
    standby = λ op chunks good t copied free. standby_lives setting y w.log i site op chunks good (copied op chunks refl);
    put_all = λ op chunk t copied free. put_all_lives setting y w.log i site op chunk;
    sync = λ home op chunks good t copied free. sync_lives setting y w.log i site home op chunks good
        (first_synced setting n count_is w j apart b p y op home (entries f chunks) t.rest no_input
        (ap (j.world.link p) node_is ∙ t.head not_input (New (ShareMsg.Sync op home (entries f chunks))) refl));
  }

  pub step_lives : (m : Msg) → IsTakenHere m → OfCopy m → Free setting y w.log i site (instance_step f i m)
      → Lives setting y w.log i site m (instance_step f i m)
  step_lives m t = by_message f g Now p y rows m t.label t
