-- How services greet: the banners, and what a payload begins with that has one. SSH's is that of RFC 4253, HTTP's of RFC 9112, the
-- greeting 220 of RFC 5321 and RFC 959, POP3's of RFC 1939, and IMAP's of RFC 9051; names and numbers are this project's own.
use Rattle.std.specs.Prelude.{ℕ, ◌==◌, Bool, true, false, if◌then◌else◌, List, [], ◌∷◌, codes}
use Rattle.std.specs.List.{starts_with}
use Rattle.asset_monitor.specs.declared.banner.Banner.{Banner}
use Rattle.asset_monitor.specs.declared.banner.Banner.TheVariants.{Unseen, Ssh, Http, Greeting, Pop3, Imap}

-- the banner that a payload begins with
unfoldable pub banner_in : List ℕ → Banner
banner_in payload =
    let begins : List ℕ → Bool = starts_with (λ a b. a == b) payload in
    if begins (codes "SSH-") then Ssh
    else if begins (codes "HTTP/") then Http
    else if begins (codes "220 ") then Greeting
    else if begins (codes "+OK") then Pop3
    else if begins (codes "* OK") then Imap
    else Unseen

-- no banner was seen
abbrev pub is_unseen : Banner → Bool
is_unseen Unseen = true
is_unseen banner = false

-- the numbers that outputs and stored records use for the banners
abbrev pub banner_number : Banner → ℕ
banner_number = elim [ Unseen ↦ 0 | Ssh ↦ 1 | Http ↦ 2 | Greeting ↦ 3 | Pop3 ↦ 4 | Imap ↦ 5 ]

-- the banners' names, in the order of these numbers
abbrev pub banner_names : List (List ℕ)
banner_names = codes "-" ∷ codes "ssh" ∷ codes "http" ∷ codes "greeting" ∷ codes "pop3" ∷ codes "imap" ∷ []
