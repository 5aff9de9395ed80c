-- Records compare by the bytes that they are stored as in the order of their fields there.
use Rattle.std.proofs.Common.{◌≡◌, ◌∙◌, ◌<◌, ◌^◌, true, List, [], ◌∷◌, length, nat_lt, refl, sym, ap, arith}
use Rattle.std.proofs.lemmas.Bool.{ltb-true, and_parts}
use Rattle.std.proofs.lemmas.List.{append_assoc}
use Rattle.std.proofs.lemmas.Map.Lookups.{exact_unsigned}
use Rattle.std.specs.List.{flat_map, list_all}
use Rattle.std.specs.Ordering.{nat_cmp, ordering_then}
use Rattle.std.specs.declared.cmp.Ordering.{Ordering}
use Rattle.std.specs.declared.cmp.Ordering.TheVariants.{Less, Equal, Greater}
use Rattle.std.specs.Cmp.Lexicographic.{slice_cmp}
use Rattle.nf_function.specs.Records.{age_cmp}
use Rattle.nf_function.specs.Stored.{number_bytes}
use Rattle.nf_function.specs.Units.{is_transport}
use Rattle.nf_function.proofs.StoredNumbers.{slice_cmp-number_bytes, ordering_then-assoc}
use Rattle.asset_monitor.specs.contracts.banner.BannerOrd.TheImpl as banners
use Rattle.asset_monitor.specs.contracts.service.ServiceOrd.TheImpl as services
use Rattle.asset_monitor.specs.declared.banner.Banner.{Banner}
use Rattle.asset_monitor.specs.declared.banner.Banner.TheVariants.{Unseen, Ssh, Http, Greeting, Pop3, Imap}
use Rattle.asset_monitor.specs.declared.record.AssetRecord.{AssetRecord}
use Rattle.asset_monitor.specs.declared.service.Service.{Service}
use Rattle.asset_monitor.specs.Banners.{banner_number}
use Rattle.asset_monitor.specs.Body.{body_of, service_bytes}
use Rattle.asset_monitor.specs.Monitor.{monitor}
use Rattle.asset_monitor.specs.ServiceLemmas.{all_services}
use Rattle.asset_monitor.specs.Services.{are_services, is_service}

-- the order of banners is that of their numbers
abbrev IsByNumbers : Banner → Banner → Type 0
IsByNumbers a b = banners.cmp-value.it a b ≡ nat_cmp (banner_number a) (banner_number b)

by_numbers : (a b : Banner) → IsByNumbers a b
by_numbers Unseen b = elim b as (IsByNumbers Unseen) [ Unseen ↦ refl | Ssh ↦ refl | Http ↦ refl | Greeting ↦ refl | Pop3 ↦ refl | Imap ↦ refl ]
by_numbers Ssh b = elim b as (IsByNumbers Ssh) [ Unseen ↦ refl | Ssh ↦ refl | Http ↦ refl | Greeting ↦ refl | Pop3 ↦ refl | Imap ↦ refl ]
by_numbers Http b = elim b as (IsByNumbers Http) [ Unseen ↦ refl | Ssh ↦ refl | Http ↦ refl | Greeting ↦ refl | Pop3 ↦ refl | Imap ↦ refl ]
by_numbers Greeting b = elim b as (IsByNumbers Greeting) [ Unseen ↦ refl | Ssh ↦ refl | Http ↦ refl | Greeting ↦ refl | Pop3 ↦ refl | Imap ↦ refl ]
by_numbers Pop3 b = elim b as (IsByNumbers Pop3) [ Unseen ↦ refl | Ssh ↦ refl | Http ↦ refl | Greeting ↦ refl | Pop3 ↦ refl | Imap ↦ refl ]
by_numbers Imap b = elim b as (IsByNumbers Imap) [ Unseen ↦ refl | Ssh ↦ refl | Http ↦ refl | Greeting ↦ refl | Pop3 ↦ refl | Imap ↦ refl ]

-- as many services compare by their bytes
services_cmp : (xs ys : List Service) → length xs ≡ length ys → list_all is_service xs ≡ true → list_all is_service ys ≡ true
    → slice_cmp nat_cmp (flat_map service_bytes xs) (flat_map service_bytes ys) ≡ slice_cmp services.cmp-value.it xs ys
services_cmp [] [] l p q = refl
services_cmp [] (y ∷ ys) l p q = absurd (omega (arith, l))
services_cmp (x ∷ xs) [] l p q = absurd (omega (arith, l))
services_cmp (x ∷ xs) (y ∷ ys) l p q =
    let first = and_parts (is_service x) (list_all is_service xs) p in
    let second = and_parts (is_service y) (list_all is_service ys) q in
    let mine : x.port < 2 ^ 16 = ltb-true x.port (2 ^ 16) (and_parts (is_transport x.proto) (nat_lt x.port (2 ^ 16)) first.0).1 in
    let theirs : y.port < 2 ^ 16 = ltb-true y.port (2 ^ 16) (and_parts (is_transport y.proto) (nat_lt y.port (2 ^ 16)) second.0).1 in
    rw (
      append_assoc (number_bytes 2 x.port) (banner_number x.banner ∷ []) (flat_map service_bytes xs),
      append_assoc (number_bytes 2 y.port) (banner_number y.banner ∷ []) (flat_map service_bytes ys),
      slice_cmp-number_bytes 2 x.port y.port (banner_number x.banner ∷ flat_map service_bytes xs) (banner_number y.banner ∷ flat_map service_bytes ys) mine
          theirs,
      services_cmp xs ys (omega (arith, l)) first.1 second.1,
      by_numbers x.banner y.banner,
      ordering_then-assoc (nat_cmp x.proto y.proto) (ordering_then (nat_cmp x.port y.port) (nat_cmp (banner_number x.banner) (banner_number y.banner)))
          (slice_cmp services.cmp-value.it xs ys),
      ordering_then-assoc (nat_cmp x.port y.port) (nat_cmp (banner_number x.banner) (banner_number y.banner)) (slice_cmp services.cmp-value.it xs ys),
    ) refl

twice : (o p : Ordering) → ordering_then o (ordering_then o p) ≡ ordering_then o p
twice Less p = refl
twice Equal p = refl
twice Greater p = refl

-- the numbers of a record that the code holds
pub record Within (r : AssetRecord) : Type 0 where
  pub services : are_services r.services ≡ true
  pub packets : r.packets < 2 ^ 64

-- records with as many services compare by these
rest_cmp : (a b : AssetRecord) (sizes : Ordering) → nat_cmp (length a.services) (length b.services) ≡ sizes → Within a → Within b
    → ordering_then sizes (slice_cmp nat_cmp (flat_map service_bytes a.services) (flat_map service_bytes b.services))
    ≡ ordering_then sizes (slice_cmp services.cmp-value.it a.services b.services)
rest_cmp a b Less e v w = refl
rest_cmp a b Greater e v w = refl
rest_cmp a b Equal e v w =
    services_cmp a.services b.services (exact_unsigned (length a.services) (length b.services) e) (all_services a.services v.services)
    (all_services b.services w.services)

body_cmp : (a b : AssetRecord) → Within a → Within b
    → slice_cmp nat_cmp (body_of a) (body_of b)
    ≡ ordering_then (nat_cmp a.packets b.packets)
    (ordering_then (nat_cmp (length a.services) (length b.services)) (slice_cmp services.cmp-value.it a.services b.services))
unfolding body_of
body_cmp a b v w =
    slice_cmp-number_bytes 8 a.packets b.packets (length a.services ∷ flat_map service_bytes a.services)
    (length b.services ∷ flat_map service_bytes b.services) v.packets w.packets
    ∙ ap (ordering_then (nat_cmp a.packets b.packets)) (rest_cmp a b (nat_cmp (length a.services) (length b.services)) refl v w)

-- records compare by their packets, and then by the parts in the order of their bodies
pub age_by_parts : (a b : AssetRecord) → Within a → Within b
    → age_cmp monitor a b
    ≡ ordering_then (ordering_then (nat_cmp a.packets b.packets) (nat_cmp (length a.services) (length b.services)))
    (slice_cmp services.cmp-value.it a.services b.services)
age_by_parts a b v w =
    ap (ordering_then (nat_cmp a.packets b.packets)) (body_cmp a b v w)
    ∙ twice (nat_cmp a.packets b.packets)
    (ordering_then (nat_cmp (length a.services) (length b.services)) (slice_cmp services.cmp-value.it a.services b.services))
    ∙ sym (ordering_then-assoc (nat_cmp a.packets b.packets) (nat_cmp (length a.services) (length b.services))
    (slice_cmp services.cmp-value.it a.services b.services))
