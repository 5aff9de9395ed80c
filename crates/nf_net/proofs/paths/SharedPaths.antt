-- What is under way of a unit under a share is what waits at its stage, in the order of the stage.
use Rattle.nf_net.proofs.Words.{◌≡◌, ℕ, ◌<◌, Bool, List, [], ◌++◌, length, refl, sym, ap, ◌∙◌, subst, arith, filter, flat_map, instance_node, done_u, as_share}
use Rattle.nf_net.proofs.Words.{ShareAsked, seeing, all_but, passed_in, forwarded_in, handed_over_in, diverted_in, stored_by, queued_by, on_links, owner}
use Rattle.nf_net.proofs.Words.{processed_of, in_flight_of, Given, S, A, done_same, given, Unit}
use Rattle.proof_machines.proofs.share.Stages.{path as stage_path}
use Rattle.proof_machines.proofs.share.Path.{carries}
use Rattle.proof_machines.proofs.net.UnderReadings.{under_order}
use Rattle.net_world.specs.Path.{at_instance}
use Rattle.nf_net.proofs.RunWords.{those-but, but_none, members_few, Reached, IsUnder, HomesTold}
use Rattle.nf_net.proofs.paths.SeatPaths.{those-places}
use Rattle.nf_net.proofs.paths.SharedPlaces.{own_share, v, its_places, passed_are, forwards_are, diverts_are, events_are, store_is, queue_is, stands_is}

module _ {F R : Type 0} (here : Reached F R) (told : HomesTold here) (u : Unit) (x : ShareAsked) (before since : List ℕ)
    (k : IsUnder here u x before since) where
  open here use {setting, n, count, w, j}
  open setting use {function as f, config as c, items}

  abbrev g : Given
  g = given setting

  abbrev mine : ℕ → Bool
  mine = (own_share here u x before since k).mine

  abbrev i0 : ℕ
  i0 = owner c items u w.log

  home_is : instance_node i0 ≡ x.home
  home_is = told u x before since k

  few_of : (i : ℕ) → i < length c.names → instance_node i < n
  few_of i small = omega (arith, small, count)

  home_few : instance_node i0 < n
  home_few = subst (λ m. m < n) (sym home_is) (members_few setting n count w j (as_share (S f g) (A f g) (seeing (S f g) (A f g) u x)
      (v here u x before since k).phase (v here u x before since k).queue)
      k.holds.share x.home k.is.home_in)

  -- nothing stands at an instance but the home
  others_none : filter mine (all_but i0 (at_instance w) (length c.names)) ≡ []
  others_none =
      those-but mine i0 (at_instance w) (length c.names)
      ∙ but_none i0 (λ i. filter mine (at_instance w i)) (length c.names)
      (λ i small off. stands_is here u x before since k (instance_node i) (omega arith) (few_of i small)
      ∙ (its_places here u x before since k).plain (instance_node i) (λ same. off (let both = same ∙ sym home_is in omega (arith, both))))

  at_home : filter mine (at_instance w i0) ≡ carries ((v here u x before since k).sw x.home)
  at_home = stands_is here u x before since k (instance_node i0) (omega arith) home_few ∙ ap (λ m. carries ((v here u x before since k).sw m)) home_is

  -- six lists in order, of which some are empty
  joined_so : (a b q r s t o p a' b' t' o' p' : List ℕ) → a ≡ a' → b ≡ b' → q ≡ [] → r ≡ [] → s ≡ [] → t ≡ t' → o ≡ o' → p ≡ p'
      → a ++ (b ++ (q ++ (r ++ (s ++ (t ++ (o ++ p)))))) ≡ a' ++ (b' ++ (t' ++ (o' ++ p')))
  joined_so a b q r s t o p a' b' t' o' p' ha hb hq hr hs ht ho hp = rw (ha, hb, hq, hr, hs, ht, ho, hp) refl

  path_is : in_flight_of f c items u w ≡ stage_path (own_share here u x before since k) k.stage
  path_is =
      those-places mine (on_links w passed_in) (on_links w forwarded_in) (flat_map stored_by w.nodes) (on_links w handed_over_in)
      (all_but i0 (at_instance w) (length c.names)) (at_instance w i0) (flat_map queued_by w.nodes) (on_links w diverted_in)
      ∙ joined_so _ _ _ _ _ _ _ _ _ _ _ _ _
      (passed_are here u x before since k)
      (forwards_are here u x before since k)
      (store_is here u x before since k)
      (events_are here u x before since k)
      others_none
      at_home
      (queue_is here u x before since k)
      (diverts_are here u x before since k)
      ∙ sym (its_places here u x before since k).path_is

  -- what was processed and what is under way are what came, before the packets were diverted and since
  pub all_is : processed_of f c items u w.log ++ in_flight_of f c items u w ≡ before ++ since
  all_is = ap (λ l. l ++ in_flight_of f c items u w) (sym (done_same setting n w j u)) ∙ ap (λ l. done_u (S f g) u j.world.done ++ l) path_is
      ∙ under_order (S f g) (A f g) (seeing (S f g) (A f g) u x) j.world before since k
