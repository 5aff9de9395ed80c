-- Steps between code and definition, which nobody has to believe: the banners by their numbers.
use Rattle.std.specs.Prelude.{ℕ, List, [], ◌∷◌, slice_get, Option}
use Rattle.asset_monitor.specs.declared.banner.Banner.{Banner}
use Rattle.asset_monitor.specs.declared.banner.Banner.TheVariants.{Unseen, Ssh, Http, Greeting, Pop3, Imap}

-- all banners, in the order of their numbers
abbrev pub all_banners : List Banner
all_banners = Unseen ∷ Ssh ∷ Http ∷ Greeting ∷ Pop3 ∷ Imap ∷ []

-- the banners by their numbers
abbrev pub banner_of : ℕ → Option Banner
banner_of number = slice_get all_banners number
