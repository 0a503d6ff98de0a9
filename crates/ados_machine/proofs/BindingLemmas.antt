-- The end of an event binds only Defers that it used, and only to directories that are there.
use Rattle.std.proofs.Common.{◌≡◌, ◌⊎◌, ◌<◌, get_or, ◌∙◌, ℕ, zero, suc, List, [], ◌∷◌, Bool, true, false, cond, Option, Some, None, option_map, Ok, Err, if◌then◌else◌, inl, inr, refl, sym, ap, subst, arith}
use Rattle.std.proofs.lemmas.Bool.{cases_Bool}
use Rattle.std.specs.List.{Contains}
use Rattle.std.specs.FinMap as map
use Rattle.std.specs.FinMap.{get-insert}
use Rattle.std.specs.declared.cmp.Ordering.{Ordering}
use Rattle.std.specs.declared.cmp.Ordering.TheVariants.{Less, Equal, Greater}
use Rattle.std.specs.Ordering.{eq_by_cmp, is_eq}
use Rattle.ados_text.specs.Text.{Text, folded_text}
use Rattle.ados_text.specs.Name.{name_cmp, name_cmp_total, name_cmp_exact}
use Rattle.ados_text.specs.declared.codes.TheConstants.Result2.{WRONG_TYPE}
use Rattle.ados_ram.specs.Entry.{is_directory}
use Rattle.ados_ram.specs.Place.{Place, key_of}
use Rattle.ados_ram.specs.Files.{Files, is_some_directory}
use Rattle.ados_ram.specs.declared.entries.Entry.{Entry}
use Rattle.ados_names.specs.Path.{path_of}
use Rattle.ados_assign.specs.Assigns.{AssignMap, with_binding}
use Rattle.ados_assign.specs.Resolve.{Resolved, by_path, resolved_directory, lead_text, text_place, on_entry, resolve_with_texts}
use Rattle.ados_assign.specs.Uses.{with_assigns_bound, with_assign_bound, with_defer_bound, led_place, is_defer, is_used, deferred_place}
use Rattle.ados_assign.specs.declared.assigns.Assign.{Assign}
use Rattle.ados_assign.specs.declared.bindings.Binding.{Binding}
use Rattle.ados_assign.specs.declared.bindings.Binding.TheVariants.{Dirs, Path, Defer}
use Rattle.ados_find.specs.Shared.{SharedState}
use Rattle.ados_machine.specs.Binding.{BindsOnly, EventsBindOnlyWhatTheyUsed, IsBound}
use Rattle.ados_machine.specs.Uses.{shared_with_bound}

-- what is led to is a directory
entry-directory : (entry : Option Entry) (there place : Place) → on_entry entry (Ok there) ≡ Ok place → (is_some_directory entry ≡ true) × (there ≡ place)
entry-directory None there place h = absurd cc
entry-directory (Some e) there place h = of (is_directory e) h
  where
    of : (b : Bool) → (if b then Ok there else Err WRONG_TYPE) ≡ Ok place → (b ≡ true) × (there ≡ place)
    of true q = (refl, cc)
    of false q = absurd cc

led-directory : (files : Files) (way : Resolved) (place : Place) → resolved_directory files way ≡ Ok place → is_some_directory (map.get files (key_of place)) ≡ true
led-directory files (Err fault) place h = absurd cc
led-directory files (Ok there) place h =
    let e = entry-directory (map.get files (key_of there)) there place h in
    subst (λ (p : Place). is_some_directory (map.get files (key_of p)) ≡ true) e.1 e.0

-- the text of a Defer leads to a directory, and no other binding leads to any
led-defers : (files : Files) (m : AssignMap) (binding : Binding) (place : Place) → deferred_place files m binding ≡ Some place
    → (is_defer binding ≡ true) × (is_some_directory (map.get files (key_of place)) ≡ true)
led-defers files m (Dirs places) place h = absurd cc
led-defers files m (Path text) place h = absurd cc
led-defers files m (Defer text) place h = (refl, led-directory files (by_path (resolve_with_texts (lead_text 7 m files) m files []) (path_of text)) place (of (text_place m files text) h))
  where
    of : (way : Resolved) → led_place way ≡ Some place → way ≡ Ok place
    of (Err fault) q = absurd cc
    of (Ok there) q = cc

-- names that the order does not distinguish are equal
same-name : (a b : Text) → eq_by_cmp name_cmp a b ≡ true → a ≡ b
same-name a b h = name_cmp_exact a b (equal (name_cmp a b) h)
  where
    equal : (r : Ordering) → is_eq r ≡ true → r ≡ Equal
    equal Less q = absurd cc
    equal Equal q = refl
    equal Greater q = absurd cc

rebound-binding : (old : Option Assign) (name : Text) (binding : Binding) → (with_binding old name binding).binding ≡ binding
rebound-binding None name binding = refl
rebound-binding (Some a) name binding = refl

-- one of the assigns is bound, if its text leads to a place
placed-at : (used : List Text) (files : Files) (m : AssignMap) (a : Assign) (name : Text) (led_to : Option Place)
    → is_used used a.name ≡ true → deferred_place files m a.binding ≡ led_to
    → (map.get (with_defer_bound m a.name led_to) name ≡ map.get m name) ⊎ IsBound used files (a ∷ []) name (map.get (with_defer_bound m a.name led_to) name)
placed-at used files m a name None u h = inl refl
placed-at used files m a name (Some place) u h =
    let value = with_binding (map.get m (folded_text a.name)) a.name (Dirs (place ∷ [])) in
    let got : map.get (with_defer_bound m a.name (Some place)) name ≡ cond (eq_by_cmp name_cmp name (folded_text a.name)) (Some value) (map.get m name) =
    get-insert name_cmp_total m (folded_text a.name) value name in
    let d = led-defers files m a.binding place h in
    elim (cases_Bool (eq_by_cmp name_cmp name (folded_text a.name))) [
      | inl same ↦ inr (record {
        assign = a;
        was = (0, omega arith, refl);
        name_is = sym (same-name name (folded_text a.name) same);
        defers = d.0;
        used_is = u;
        place = place;
        stands_for = ap (option_map (λ x. x.binding)) (got ∙ ap (λ b. cond b (Some value) (map.get m name)) same)
            ∙ ap Some (rebound-binding (map.get m (folded_text a.name)) a.name (Dirs (place ∷ [])));
        directory = d.1;
      })
      | inr other ↦ inl (got ∙ ap (λ b. cond b (Some value) (map.get m name)) other)
    ]

row-at : (used : List Text) (files : Files) (m : AssignMap) (a : Assign) (name : Text)
    → (map.get (with_assign_bound files used m a) name ≡ map.get m name) ⊎ IsBound used files (a ∷ []) name (map.get (with_assign_bound files used m a) name)
row-at used files m a name = of (is_used used a.name) refl
  where
    of : (b : Bool) → is_used used a.name ≡ b
        → (map.get (if b then with_defer_bound m a.name (deferred_place files m a.binding) else m) name ≡ map.get m name)
        ⊎ IsBound used files (a ∷ []) name (map.get (if b then with_defer_bound m a.name (deferred_place files m a.binding) else m) name)
    of true u = placed-at used files m a name (deferred_place files m a.binding) u refl
    of false u = inl refl

-- what was bound of some assigns was bound of others among which its assign is, and by the same binding
bound-among : (used : List Text) (files : Files) (rows others : List Assign) (name : Text) (now now' : Option Assign)
    → now' ≡ now → (b : IsBound used files rows name now) → Contains others b.assign → IsBound used files others name now'
bound-among used files rows others name now now' e b was = record {
  assign = b.assign;
  was = was;
  name_is = b.name_is;
  defers = b.defers;
  used_is = b.used_is;
  place = b.place;
  stands_for = ap (option_map (λ x. x.binding)) e ∙ b.stands_for;
  directory = b.directory;
}

-- the first of these assigns, or one of those after it
contains-first : (a assign : Assign) (rest : List Assign) → Contains (a ∷ []) assign → Contains (a ∷ rest) assign
contains-first a assign rest was = (0, omega arith, only was.0 was.1 was.2)
  where
    only : (k : ℕ) → k < 1 → get_or (a ∷ []) k assign ≡ assign → a ≡ assign
    only zero l q = q
    only (suc k) l q = absurd (omega (arith, l))

contains-more : (a assign : Assign) (rest : List Assign) → Contains rest assign → Contains (a ∷ rest) assign
contains-more a assign rest was = (suc was.0, omega (arith, was.1), was.2)

each-at : (used : List Text) (files : Files) (m : AssignMap) (rows : List Assign) (name : Text)
    → (map.get (with_assigns_bound files used m rows) name ≡ map.get m name) ⊎ IsBound used files rows name (map.get (with_assigns_bound files used m rows) name)
each-at used files m [] name = inl refl
each-at used files m (a ∷ rest) name =
    elim (each-at used files (with_assign_bound files used m a) rest name) [
      | inr b ↦ inr (bound-among used files rest (a ∷ rest) name _ _ refl b (contains-more a b.assign rest b.was))
      | inl still ↦ elim (row-at used files m a name) [
        | inl same ↦ inl (still ∙ same)
        | inr b ↦ inr (bound-among used files (a ∷ []) (a ∷ rest) name _ _ still b (contains-first a b.assign rest b.was))
      ]
    ]

-- what all share after an event
bound-only : (used : List Text) (shared : SharedState) → BindsOnly used (shared_with_bound used shared).files shared.assigns (shared_with_bound used shared).assigns
bound-only [] shared = λ name. inl refl
bound-only (device ∷ used) shared = λ name. each-at (device ∷ used) shared.files shared.assigns (map.values shared.assigns) name

pub binds-only : EventsBindOnlyWhatTheyUsed
binds-only w world k queue turned out items e =
    let shared : world.shared ≡ shared_with_bound turned.course.used turned.course.shared = cc in
    subst (λ (s : SharedState). BindsOnly turned.course.used s.files turned.course.shared.assigns s.assigns) (sym shared)
    (bound-only turned.course.used turned.course.shared)
