-- Packets of a site whose numbers count up from 1, and one packet more.
use Rattle.std.proofs.Common.{◌≡◌, ℕ, ◌+◌, List, [], ◌∷◌, ◌++◌, map, length, length-append, subst, sym, ap, ◌∙◌, arith, map-id}
use Rattle.std.specs.List.{All, range_with_len}
use Rattle.std.proofs.lemmas.List.{map-append}
use Rattle.std.proofs.lemmas.List.Elements.{All-push}
use Rattle.std.proofs.lemmas.List.FromFn.{map-range_with_len_more}
use Rattle.flow_filter.specs.declared.packet.Packet.{Packet}
use Rattle.flow_filter.specs.declared.site.Site.{Site}
use Rattle.net_world.specs.Input.{IsSteered}

-- so many packets so far
pub record AreSo (site : Site) (packets : List Packet) (count : ℕ) : Type 0 where
  pub steered : All (IsSteered site) packets
  pub numbers : map (λ p. p.number) packets ≡ range_with_len 1 count
  pub many : length packets ≡ count

pub one_more : (site : Site) (packets more : List Packet) (p : Packet) (n : ℕ) → more ≡ packets ++ p ∷ [] → AreSo site packets n → IsSteered site p
    → p.number ≡ n + 1 → AreSo site more (n + 1)
one_more site packets more p n is so steered number = subst (λ ps. AreSo site ps (n + 1)) (sym is) (record {
  steered = All-push (IsSteered site) packets p so.steered steered;
  numbers =
      map-append (λ (q : Packet). q.number) packets (p ∷ [])
      ∙ ap (λ ns. ns ++ p.number ∷ []) so.numbers
      ∙ ap (λ k. range_with_len 1 n ++ k ∷ []) number
      ∙ ap (λ ns. ns ++ (n + 1) ∷ []) (sym (map-id (range_with_len 1 n)))
      ∙ sym (map-range_with_len_more (λ i. i) 1 n (n + 1) (omega arith))
      ∙ map-id (range_with_len 1 (n + 1));
  many = (let both = length-append packets (p ∷ []) in let so_many = so.many in omega (arith, both, so_many));
})
