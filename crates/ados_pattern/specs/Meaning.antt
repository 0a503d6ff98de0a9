-- What a pattern is.
use Rattle.std.specs.Prelude.{Option, None, refl}
use Rattle.std.specs.Coded.{Coded, code_by, coded×, coded_ℕ, coded_list, coded_option}
use Rattle.ados_text.specs.Text.{Text}
use Rattle.ados_pattern.specs.Form.{Form, Empty, Any, Many, Then}
use Rattle.ados_pattern.specs.FormCode.{form_code}
use Rattle.ados_pattern.specs.Build.{form_of_tokens}
use Rattle.ados_pattern.specs.Literal.{literal_name}
use Rattle.ados_pattern.specs.Tokens.{tokens_of}

-- what a pattern says, and its name if it is literal
pub record Meaning : Type 0 where
  pub form : Form
  pub name : Option Text

abbrev pub meaning_code : Coded Meaning
meaning_code =
    code_by (Form × Option Text) (coded× form_code (coded_option (coded_list coded_ℕ))) (λ m. (m.form, m.name)) (λ p. record { form = p.0; name = p.1 }) (λ _. refl)

-- what a text says, if it is a pattern
abbrev pub meaning_of : Text → Meaning
meaning_of text = record { form = form_of_tokens (tokens_of text); name = literal_name text }

-- the pattern in which any texts may stand before and after what another one says
abbrev pub anywhere : Meaning → Meaning
anywhere pattern = record { form = Then (Many Any) (Then pattern.form (Then (Many Any) Empty)); name = None }
