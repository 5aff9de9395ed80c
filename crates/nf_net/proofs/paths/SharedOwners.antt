-- The members of an open share are among the nodes, and a share that a unit is under, as the controller has it. And what is told
-- of the log: the home of such a share owns the unit.
use Rattle.nf_net.proofs.Words.{◌≡◌, ℕ, ◌+◌, ◌<◌, true, Some, List, [], ◌∷◌, map, length, sym, ap, ◌∙◌, arith, if◌then◌else◌, ◌==◌, nat_lt, Decides-eqb}
use Rattle.nf_net.proofs.Words.{Decides-ltb, Msg, Note, instance_node, Network, Each, View, has, shape, unit_share, as_share, ShareAsked, OpenShare, find_share}
use Rattle.nf_net.proofs.Words.{SeeingShare, Under, seeing, Node, owner, real_share, RealShare, Given, place, S, A, Joined, given, Unit, split, Setting}

-- members of a share are instances that are there
few_nodes : (count : ℕ) (xs : List ℕ) → Each (λ x. nat_lt x count ≡ true) xs → (k : ℕ) → has (map instance_node xs) k ≡ true → k < count + 2
few_nodes count [] h k is = cc
few_nodes count (x ∷ xs) h k is =
    split (k == instance_node x) (λ b. (if b then true else has (map instance_node xs) k) ≡ true → k < count + 2)
    (λ on _. (let same : k ≡ instance_node x = (Decides-eqb k (instance_node x)).0 on in
    let low : x < count = (Decides-ltb x count).0 h.0 in omega (arith, same, low))) (λ _ rest. few_nodes count xs h.1 k rest) is

module _ {F R : Type 0} (setting : Setting F R) (n : ℕ) (count : n ≡ length setting.config.names + 2) (w : Network (Node F R) Msg Note)
    (j : Joined setting.function (given setting) n w) where
  open setting use {function as f, config as c, items}

  abbrev g : Given
  g = given setting

  -- the members of an open share are among the nodes
  pub members_few : (e : OpenShare) → find_share j.world.shares e.num ≡ Some e → (k : ℕ) → has e.members k ≡ true → k < n
  members_few e found k inside =
      let r = real_share f (place g) g.site j.world.ops j.world.shares j.nodes.controller e.num e j.shown_is.controller.opens found in
      let few = (j.shown_is.controller.shared e.num r.s r.there).few in
      let low : k < length c.names + 2 = few_nodes (length c.names) r.s.plan.members few k (ap (λ y. has y.members k) (sym r.sees.is) ∙ inside) in
      omega (arith, low, count)

  module _ (u : Unit) (x : ShareAsked) (before since : List ℕ) (k : Under (S f g) (A f g) (seeing (S f g) (A f g) u x) j.world before since) where
    abbrev z : SeeingShare
    z = seeing (S f g) (A f g) u x

    abbrev v : View R
    v = shape (unit_share (S f g) (A f g) z) k.stage

    abbrev e : OpenShare
    e = as_share (S f g) (A f g) z v.phase v.queue

    -- as the controller has it
    pub real : RealShare f (place g) g.site j.nodes.controller x.num e
    real = real_share f (place g) g.site j.world.ops j.world.shares j.nodes.controller x.num e j.shown_is.controller.opens k.holds.share

  -- the home of the share that a unit is under owns it, by the log
  abbrev pub HomesOwn : Type 0
  HomesOwn = (u : Unit) (x : ShareAsked) (before since : List ℕ) → Under (S f g) (A f g) (seeing (S f g) (A f g) u x) j.world before since
      → instance_node (owner c items u w.log) ≡ x.home
