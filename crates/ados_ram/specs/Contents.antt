-- Contents: what is in a directory and below it, as places in lower case.
use Rattle.std.specs.Prelude.{◌↔◌, Bool, true, false, cond, not, ◌&&◌, List, [], ◌∷◌, IsSome, IsTrue}
use Rattle.std.specs.List.{Contains}
use Rattle.std.specs.List.Sorted.{IsStrictlySortedBy}
use Rattle.std.specs.declared.cmp.Ordering.{Ordering}
use Rattle.std.specs.declared.cmp.Ordering.TheVariants.{Less, Equal, Greater}
use Rattle.std.specs.Ordering.{ordering_then}
use Rattle.std.specs.FinMap as map
use Rattle.ados_text.specs.Name.{name_cmp}
use Rattle.ados_ram.specs.Place.{Key, is_child, is_below}
use Rattle.ados_ram.specs.Entry.{is_directory}
use Rattle.ados_ram.specs.Files.{Files, Rows}

-- the places directly in a directory, in order
abbrev pub children : Key → Rows → List Key
children directory [] = []
children directory (e ∷ es) = cond (is_child directory e.0) (e.0 ∷ children directory es) (children directory es)

-- a place inserted after those below it that a list begins with
abbrev pub put_after_contents : Key → List Key → List Key
put_after_contents place [] = place ∷ []
put_after_contents place (q ∷ qs) = cond (is_below place q) (q ∷ put_after_contents place qs) (place ∷ q ∷ qs)

-- the places below a directory, in order, except that each directory comes after what is in it
abbrev pub contents : Key → Rows → List Key
contents directory [] = []
contents directory (e ∷ es) = cond (is_below directory e.0) (put_after_contents e.0 (contents directory es)) (contents directory es)

-- the second place is below the first, at any depth or directly
abbrev pub is_within : Bool → Key → Key → Bool
is_within true directory place = is_below directory place
is_within false directory place = is_child directory place

-- the places of the files below a directory, or of those directly in it, in order
abbrev pub directory_files : Bool → Key → Rows → List Key
directory_files all directory [] = []
directory_files all directory (e ∷ es) =
    cond (is_within all directory e.0 && not (is_directory e.1)) (e.0 ∷ directory_files all directory es) (directory_files all directory es)

-- the order of contents: like that of places, but a directory comes after what is in it
abbrev pub contents_cmp : Key → Key → Ordering
contents_cmp [] [] = Equal
contents_cmp [] (y ∷ ys) = Greater
contents_cmp (x ∷ xs) [] = Less
contents_cmp (x ∷ xs) (y ∷ ys) = ordering_then (name_cmp x y) (contents_cmp xs ys)

-- just the places of the objects that pass a test, each once, in an order
pub record ListsJust (files : Files) (test : Key → Bool) (order : Key → Key → Ordering) (places : List Key) : Type 0 where
  pub just : (place : Key) → Contains places place ↔ (IsSome (map.get files place) × IsTrue (test place))
  pub in_order : IsStrictlySortedBy order places
