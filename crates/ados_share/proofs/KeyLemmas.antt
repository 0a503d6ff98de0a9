-- Which keys a map has after one is put in.
use Rattle.std.proofs.Common.{◌≡◌, ◌∙◌, Bool, true, false, cond, ◌||◌, Option, Some, String, BTreeMap, ap, refl}
use Rattle.std.specs.BTreeMap.{get_by_text}
use Rattle.std.specs.Option.{is_some}
use Rattle.std.specs.Str.{bytes_eq}
use Rattle.ados_text.specs.Text.{Bytes}
use Rattle.ados_share.specs.Records.{Sets, has_key}

some_set : {X : Type 0} (same : Bool) (x : X) (old : Option X) → is_some (cond same (Some x) old) ≡ (same || is_some old)
some_set true x old = refl
some_set false x old = refl

-- that key and those that it had
pub has_key_set : {A X : Type 0} (key : Bytes) (old new : BTreeMap (String A) X) (x : X) → Sets old new key (Some x) → (q : Bytes) → has_key new q ≡ (bytes_eq key q || has_key old q)
has_key_set key old new x sets q = ap is_some (sets q) ∙ some_set (bytes_eq key q) x (get_by_text old q)
