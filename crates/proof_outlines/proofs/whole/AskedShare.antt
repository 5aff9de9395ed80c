-- Commands that come to the switch: what the network with shares sees of them; and the members of a share that is asked for.
use Rattle.proof_outlines.proofs.Words.{◌≡◌, ℕ, suc, ◌≤◌, Bool, true, false, Option, Some, None, List, [], ◌∷◌, length, refl, sym, ap, ◌∙◌, subst, arith}
use Rattle.proof_outlines.proofs.Words.{if◌then◌else◌, ◌==◌, option_map, AllByRecursion, bytes_eq, nat_tests, Decides-eqb, IsDistinct-head, IsDistinct-tail}
use Rattle.proof_outlines.proofs.Words.{Semantics, Command, Order, controller_node, instance_node, SwitchState, on_command, has, MoveAsked, Any, Old, New}
use Rattle.proof_outlines.proofs.Words.{ShareAsked, ShareMsg, IsDistinct}
use Rattle.proof_machines.proofs.share.Stages.{distinct}
use Rattle.proof_machines.proofs.net.Net as net
use Rattle.proof_outlines.proofs.outline.Outline.{want_of}
use Rattle.proof_outlines.proofs.whole.WholeOutline.{with_member, members_of, share_between, want_share_of, asked_of, outline_all}

module _ {R : Type 0} (f : Semantics R) (place : List ℕ → Option ℕ) where
  -- what a command asks for is a move, or a share, or else it isn't seen
  pub asked_move : (op : ℕ) (what : Order) (want : MoveAsked) → want_of place op what ≡ Some want → asked_of f place op what ≡ Some (Old (net.Asked want))
  asked_move op (Order.Move src dst filter keep) want e = ap (option_map (λ w. Old (net.Asked w))) e
  asked_move op what want e = cc

  pub asked_share : (op : ℕ) (what : Order) (want : ShareAsked) → want_share_of place op what ≡ Some want → asked_of f place op what
      ≡ Some (New (ShareMsg.Asked want))
  asked_share op (Order.Share members filter) want e = ap (option_map (λ w. New (ShareMsg.Asked w))) e
  asked_share op what want e = cc

  pub asked_none : (op : ℕ) (what : Order) → want_of place op what ≡ None → want_share_of place op what ≡ None → asked_of f place op what ≡ None
  asked_none op (Order.Move src dst filter keep) a b = ap (option_map (λ w. Old (net.Asked w))) a
  asked_none op (Order.Copy src dst filter) a b = refl
  asked_none op (Order.Share members filter) a b = ap (option_map (λ w. New (ShareMsg.Asked w))) b

  -- the switch hands it on
  pub command_all : (s : SwitchState) (c : Command) (m : Any R) → asked_of f place c.op c.what ≡ Some m
      → outline_all f place (on_command s c).sends ≡ (controller_node, m) ∷ []
  command_all s c m e = rw e refl

  pub command_unseen : (s : SwitchState) (c : Command) → asked_of f place c.op c.what ≡ None → outline_all f place (on_command s c).sends ≡ []
  command_unseen s c e = rw e refl

module _ (place : List ℕ → Option ℕ) where
  -- a known member, and others that are known
  pub record IsMore (name : List ℕ) (names : List (List ℕ)) (nodes : List ℕ) : Type 0 where
    pub instance : ℕ
    pub others : List ℕ
    pub placed : place name ≡ Some instance
    pub rest : members_of place names ≡ Some others
    pub nodes_are : nodes ≡ instance_node instance ∷ others

  pub is_more : (name : List ℕ) (names : List (List ℕ)) (nodes : List ℕ) → members_of place (name ∷ names) ≡ Some nodes → IsMore name names nodes
  is_more name names nodes e = by_parts (place name) (members_of place names) refl refl e
    where
      by_parts : (o : Option ℕ) (p : Option (List ℕ)) → place name ≡ o → members_of place names ≡ p → with_member o p ≡ Some nodes → IsMore name names nodes
      by_parts (Some i) (Some ms) a b is =
          let same : instance_node i ∷ ms ≡ nodes = cc in record { instance = i; others = ms; placed = a; rest = b; nodes_are = sym same }
      by_parts (Some i) None a b is = cc
      by_parts None p a b is = cc

  pub members_long : (names : List (List ℕ)) (nodes : List ℕ) → members_of place names ≡ Some nodes → length nodes ≡ length names
  members_long [] nodes e = let same : [] ≡ nodes = cc in ap length (sym same)
  members_long (name ∷ names) nodes e = let m = is_more name names nodes e in ap length m.nodes_are ∙ ap suc (members_long names m.others m.rest)

  -- members are instances
  pub members_are : (names : List (List ℕ)) (nodes : List ℕ) → members_of place names ≡ Some nodes → (k : ℕ) → has nodes k ≡ true → 2 ≤ k
  members_are [] nodes e k is = let same : [] ≡ nodes = cc in let none : has nodes k ≡ false = ap (λ ns. has ns k) (sym same) in cc
  members_are (name ∷ names) nodes e k is =
      let m = is_more name names nodes e in
      by_test m (k == instance_node m.instance) refl (sym (ap (λ ns. has ns k) m.nodes_are) ∙ is) (members_are names m.others m.rest k)
    where
      by_test : (m : IsMore name names nodes) (b : Bool) → (k == instance_node m.instance) ≡ b
          → (if k == instance_node m.instance then true else has m.others k) ≡ true → (has m.others k ≡ true → 2 ≤ k) → 2 ≤ k
      by_test m true at is rest = let same = (Decides-eqb k (instance_node m.instance)).0 at in omega (arith, same)
      by_test m false off is rest = rest (rw off at is)

  -- no place has two names
  module _ (tells : (a b : List ℕ) (i : ℕ) → place a ≡ Some i → place b ≡ Some i → bytes_eq a b ≡ true) where
    member_apart : (name : List ℕ) (i : ℕ) (names : List (List ℕ)) (nodes : List ℕ) → place name ≡ Some i
        → AllByRecursion (λ other. bytes_eq name other ≡ false) names → members_of place names ≡ Some nodes → has nodes (instance_node i) ≡ false
    member_apart name i [] nodes at apart e = let same : [] ≡ nodes = cc in ap (λ ns. has ns (instance_node i)) (sym same)
    member_apart name i (other ∷ names) nodes at apart e =
        let m = is_more other names nodes e in
        ap (λ ns. has ns (instance_node i)) m.nodes_are
        ∙ by_test m (instance_node i == instance_node m.instance) refl (member_apart name i names m.others at apart.1 m.rest)
      where
        by_test : (m : IsMore other names nodes) (b : Bool) → (instance_node i == instance_node m.instance) ≡ b → has m.others (instance_node i) ≡ false
            → (if instance_node i == instance_node m.instance then true else has m.others (instance_node i)) ≡ false
        by_test m true same rest =
            let i_is : m.instance ≡ i = omega (arith, (Decides-eqb (instance_node i) (instance_node m.instance)).0 same) in
            let never : bytes_eq name other ≡ true = tells name other i at (m.placed ∙ ap Some i_is) in
            let off = apart.0 in
            cc
        by_test m false off rest = rw off rest

    pub members_apart : (names : List (List ℕ)) (nodes : List ℕ) → IsDistinct bytes_eq names → members_of place names ≡ Some nodes → distinct nodes ≡ true
    members_apart [] nodes d e = let same : [] ≡ nodes = cc in ap distinct (sym same)
    members_apart (name ∷ names) nodes d e =
        let m = is_more name names nodes e in
        let own : has m.others (instance_node m.instance) ≡ false = member_apart name m.instance names m.others m.placed
        (IsDistinct-head bytes_eq name names d) m.rest in
        ap distinct m.nodes_are ∙ rw own (members_apart names m.others (IsDistinct-tail bytes_eq name names d) m.rest)

-- a share that is asked for has the number of its command and its filter, and its members are those of the order; the first is its home
pub record IsWanted (place : List ℕ → Option ℕ) (op : ℕ) (what : Order) (want : ShareAsked) : Type 0 where
  pub names : List (List ℕ)
  pub order_is : what ≡ Order.Share names want.filter
  pub num : want.num ≡ op
  pub members : members_of place names ≡ Some want.members
  pub home : has want.members want.home ≡ true

pub is_wanted : (place : List ℕ → Option ℕ) (op : ℕ) (what : Order) (want : ShareAsked) → want_share_of place op what ≡ Some want → IsWanted place op what want
is_wanted place op (Order.Share names filter) want e = by_nodes (members_of place names) refl e
  where
    by_nodes : (o : Option (List ℕ)) → members_of place names ≡ o → share_between op filter o ≡ Some want → IsWanted place op (Order.Share names filter) want
    by_nodes None at is = cc
    by_nodes (Some []) at is = cc
    by_nodes (Some (home ∷ others)) at is =
        let same : record { num = op; home = home; members = home ∷ others; filter = filter } ≡ want = cc in
        subst (IsWanted place op (Order.Share names filter)) same (record {
          names = names;
          order_is = refl;
          num = refl;
          members = at;
          home = let self : (home == home) ≡ true = grind (arith, nat_tests) in rw self refl;
        })
is_wanted place op what want e = cc
