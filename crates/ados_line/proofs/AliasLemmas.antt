-- without aliases a line stays as it is
use Rattle.std.proofs.Common.{◌≡◌, List, ℕ, [], ◌∷◌, length, refl}
use Rattle.ados_items.specs.declared.items.Item.{Item}
use Rattle.ados_items.specs.declared.items.Item.TheVariants.{Word, Quoted, Equal, End, Unmatched}
use Rattle.ados_vars.specs.Vars.{Pairs, value_in}
use Rattle.ados_line.specs.Alias.{by_first_item, with_alias}

none-named : (line : List ℕ) (item : Item) → by_first_item [] line item ≡ line
unfolding value_in
none-named line (Word from to) = refl
none-named line (Quoted from to) = refl
none-named line (Equal at) = refl
none-named line (End at) = refl
none-named line (Unmatched from) = refl

pub no_aliases : (aliases : Pairs) (line : List ℕ) → length aliases ≡ 0 → with_alias aliases line ≡ line
no_aliases [] line none = none-named line _
no_aliases (p ∷ ps) line none = cc
