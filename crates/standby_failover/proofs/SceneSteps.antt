-- What the code sees of a world is what the definitions say of it; so each note of a packet that was processed goes on with the lists as they say.
use Rattle.standby_failover.proofs.Words.{◌≡◌, ℕ, ◌+◌, ◌<◌, Bool, true, false, Option, Some, None, List, [], ◌∷◌, ◌++◌, take, drop, get_or, length, sym, ap}
use Rattle.standby_failover.proofs.Words.{◌∙◌, subst, if◌then◌else◌, ◌&&◌, is_some, not, slice_get, Packet, Output, FunctionLaws, Semantics, kept_after}
use Rattle.standby_failover.proofs.Words.{unit_at, unit_cmp, Records, same_unit, Note, instance_node, packet_numbered, packets, arrivals_in, unit_in, Failover}
use Rattle.standby_failover.proofs.Words.{is_affected, is_in, is_open, numbers_done, standing, Stopped, IsSceneOf, affects, failover_in, has_seen_more}
use Rattle.std.specs.Prelude.{unwrap_or}
use Rattle.std.specs.FinMap as finite
use Rattle.std.specs.Option.{option_map_or}
use Rattle.std.proofs.Math.Bool.{and_comm}
use Rattle.nf_function.specs.declared.unit.Unit as units
use Rattle.nf_msgs.specs.declared.note.Note.TheVariants as note
use Rattle.net_world.specs.Input.{no_packet}
use Rattle.standby_failover.specs.declared.scene.Scene.{Scene}
use Rattle.standby_failover.proofs.ListLemmas.{in_middle}
use Rattle.standby_failover.proofs.Arrivals.{found_came, found_done}
use Rattle.standby_failover.proofs.LostPackets.{IsUpTo, next_lost, next_other, next_seen, up_to_none}
use Rattle.standby_failover.proofs.MetNumbers.{done_next, met_done}
use Rattle.standby_failover.proofs.NumberedPackets.{found}
use Rattle.standby_failover.proofs.PromotedTables.{live_table, standby_table}

missing : {X : Type 0} (o : Option X) → o ≡ None → ((y : X) × (o ≡ Some y)) → ⊥
missing o none some = let never : None ≡ Some some.0 = sym none ∙ some.1 in cc

module _ {F R : Type 0} (f : Semantics R) (v : Stopped F R) (s : Scene F R) (is : IsSceneOf f v s) where
  abbrev x : Failover F R
  x = failover_in f v

  -- units whose records were live, and what stands by
  pub affected_is : (u : units.Unit) → is_affected x u ≡ is_some (finite.get s.failed.now.live u)
  affected_is u = ap is_some (live_table (slice_get v.world.nodes (instance_node v.failed)) u ∙ ap (λ t. finite.get t.live u) (sym is.failed))

  pub standing_is : (u : units.Unit) → standing x u ≡ finite.get s.to.now.standby u
  standing_is u = standby_table (slice_get v.world.nodes (instance_node v.to)) u ∙ ap (λ t. finite.get t.standby u) (sym is.to)

  -- a packet that is found is that of its number
  module _ (number : ℕ) (p : Packet) (at : found s.packets.now number ≡ Some p) where
    pub packet_is : packet_numbered v.items number ≡ p
    packet_is = ap (λ ps. unwrap_or (found ps number) no_packet) (sym is.packets) ∙ ap (λ o. unwrap_or o no_packet) at

    pub unit_is : unit_in x.job number ≡ unit_at f.kind s.site p
    unit_is = ap (λ q. unit_at f.kind v.config.site q) packet_is ∙ ap (λ site. unit_at f.kind site p) (sym is.site)

  -- whether a packet that came is of an affected unit
  pub affects_is : (number : ℕ) → is_in number (arrivals_in s.log.now) ≡ true → affects f s number ≡ is_affected x (unit_in x.job number)
  affects_is number came =
      let it = found_came x is.left number (ap (λ l. is_in number (arrivals_in l)) (sym is.log) ∙ came) in
      let at : found s.packets.now number ≡ Some it.0 = ap (λ ps. found ps number) is.packets ∙ it.1 in
      ap (λ o. option_map_or (λ p. is_some (finite.get s.failed.now.live (unit_at f.kind s.site p))) o false) at
      ∙ ap (λ u. is_some (finite.get s.failed.now.live u)) (sym (unit_is number it.0 at))
      ∙ sym (affected_is (unit_in x.job number))

  -- and so whether it is open
  pub open_is : (number : ℕ) → is_in number (arrivals_in s.log.now) ≡ true → (b : Bool)
      → (not (is_in number (numbers_done s.log.now)) && affects f s number) ≡ b
      → is_open x number ≡ b
  open_is number came b e =
      and_comm (is_affected x (unit_in x.job number)) (not (is_in number (numbers_done v.world.log)))
      ∙ ap (λ l. not (is_in number (numbers_done l)) && is_affected x (unit_in x.job number)) (sym is.log)
      ∙ ap (λ a. not (is_in number (numbers_done s.log.now)) && a) (sym (affects_is number came)) ∙ e

  module _ (laws : FunctionLaws f) where
    pub begun : IsUpTo x [] (finite.empty {X = R} {R = unit_cmp}) []
    begun = up_to_none x laws is.left

    -- a note of a packet that was processed
    module _ (i : ℕ) (n : Note) (within : i < length s.log.now) (here : n ≡ get_or s.log.now i n) (number instance : ℕ) (output : Output)
        (told : n ≡ note.Processed number instance output) where
      whole : numbers_done (take i s.log.now) ++ number ∷ numbers_done (drop (i + 1) s.log.now) ≡ numbers_done v.world.log
      whole = met_done s.log.now i n within here number instance output told ∙ ap numbers_done is.log

      -- its packet is found
      pub is_found : found s.packets.now number ≡ None → ⊥
      is_found none =
          let among : is_in number (numbers_done v.world.log) ≡ true = ap (is_in number) (sym whole)
          ∙ in_middle number (numbers_done (take i s.log.now)) (numbers_done (drop (i + 1) s.log.now)) in
          missing (found (packets v.items) number) (ap (λ ps. found ps number) (sym is.packets) ∙ none) (found_done x is.left number among)

      module _ (again : Records R) (order : List ℕ) (h : IsUpTo x (numbers_done (take i s.log.now)) again order) (p : Packet)
          (at : found s.packets.now number ≡ Some p) where
        abbrev u : units.Unit
        u = unit_at f.kind s.site p

        next : (after : Records R) (ns : List ℕ) → IsUpTo x (numbers_done (take i s.log.now) ++ number ∷ []) after ns
            → IsUpTo x (numbers_done (take (i + 1) s.log.now)) after ns
        next after ns k = subst (λ ms. IsUpTo x ms after ns) (sym (done_next s.log.now i n within here number instance output told)) k

        affected_so : (b : Bool) → is_some (finite.get s.failed.now.live u) ≡ b → is_affected x (unit_in x.job number) ≡ b
        affected_so b e = affected_is (unit_in x.job number) ∙ ap (λ w. is_some (finite.get s.failed.now.live w)) (unit_is number p at) ∙ e

        more_so : (b : Bool) → has_seen_more f (finite.get s.to.now.standby u) (finite.get again u) ≡ b
            → has_seen_more f (standing x (unit_in x.job number)) (finite.get again (unit_in x.job number)) ≡ b
        more_so b e =
            ap (λ o. has_seen_more f o (finite.get again (unit_in x.job number))) (standing_is (unit_in x.job number))
            ∙ ap (λ w. has_seen_more f (finite.get s.to.now.standby w) (finite.get again w)) (unit_is number p at) ∙ e

        pub passed_other : is_some (finite.get s.failed.now.live u) ≡ false → IsUpTo x (numbers_done (take (i + 1) s.log.now)) again order
        passed_other e = next again order
            (next_other x laws is.left (numbers_done (take i s.log.now)) (numbers_done (drop (i + 1) s.log.now)) number whole again order h
            (affected_so false e))

        module _ (on : is_some (finite.get s.failed.now.live u) ≡ true) where
          pub passed_lost : has_seen_more f (finite.get s.to.now.standby u) (finite.get again u) ≡ false
              → IsUpTo x (numbers_done (take (i + 1) s.log.now)) again (order ++ number ∷ [])
          passed_lost e = next again (order ++ number ∷ [])
              (next_lost x laws is.left (numbers_done (take i s.log.now)) (numbers_done (drop (i + 1) s.log.now)) number whole again order h
              (affected_so true on) (more_so false e))

          pub passed_seen : has_seen_more f (finite.get s.to.now.standby u) (finite.get again u) ≡ true → (after : Records R)
              → ((w : units.Unit) → finite.get after w ≡ (if same_unit w u then kept_after f s.site (finite.get again w) p else finite.get again w))
              → IsUpTo x (numbers_done (take (i + 1) s.log.now)) after order
          passed_seen e after stepped =
              next after order (next_seen x laws is.left (numbers_done (take i s.log.now)) (numbers_done (drop (i + 1) s.log.now)) number whole again order h
              (affected_so true on) (more_so true e) after so)
            where
              so : (w : units.Unit) → finite.get after w
                  ≡ (if same_unit w (unit_in x.job number) then kept_after f v.config.site (finite.get again w) (packet_numbered v.items number) else finite.get
                  again w)
              so w =
                  stepped w
                  ∙ ap (λ y. if same_unit w y then kept_after f s.site (finite.get again w) p else finite.get again w) (sym (unit_is number p at))
                  ∙ ap (λ site. if same_unit w (unit_in x.job number) then kept_after f site (finite.get again w) p else finite.get again w) is.site
                  ∙ ap (λ q. if same_unit w (unit_in x.job number) then kept_after f v.config.site (finite.get again w) q else finite.get again w)
                  (sym (packet_is number p at))
