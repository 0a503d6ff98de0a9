-- The devices that a script mentions before one of its lines assigns or asks for them.
use Rattle.std.specs.Prelude.{ℕ, ◌+◌, List, [], ◌∷◌, ◌++◌, if◌then◌else◌}
use Rattle.ados_text.specs.Text.{Bytes, Text}
use Rattle.ados_resident.specs.declared.dialects.Dialect.{Dialect}
use Rattle.ados_check.specs.Devices.{assigned_in, is_among, mentioned_in}
use Rattle.ados_check.specs.LeftOut.{command_text}
use Rattle.ados_check.specs.declared.device_news.News.{News}
use Rattle.ados_check.specs.declared.findings.Finding.{Finding}
use Rattle.ados_check.specs.declared.findings.Problem.TheVariants.{NoDevice}

-- what is known after some lines: the devices that they mention, assign or ask for, and what is found in them
pub record Known : Type 0 where
  pub devices : List Text
  pub found : List Finding

-- what is known as the code has it
abbrev pub news_of : News → Known
news_of news = record { devices = news.known.items; found = news.found.items }

-- what is known after the line of a number mentioned a device: unless it was known it is told, and it is known from then on
abbrev pub with_device : ℕ → Known → Text → Known
with_device number news device =
    if is_among news.devices device then news
    else record { devices = news.devices ++ device ∷ []; found = news.found ++ record { line = number; problem = NoDevice device } ∷ [] }

-- what is known after the line of a number mentioned these devices, one after another
abbrev pub with_devices : ℕ → List Text → Known → Known
with_devices number [] news = news
with_devices number (device ∷ devices) news = with_devices number devices (with_device number news device)

-- what is known after a line that assigns or asks for these devices
abbrev pub with_assigned : List Text → Known → Known
with_assigned devices news = record { devices = news.devices ++ devices; found = news.found }

-- what is known after the line of a number: what it assigns or asks for is known before what it mentions is told
abbrev pub with_line : Dialect → ℕ → Bytes → Known → Known
with_line dialect number line news =
    with_devices number (mentioned_in dialect (command_text line)) (with_assigned (assigned_in dialect (command_text line)) news)

-- what is known after lines, the first of which has this number
abbrev pub with_lines : Dialect → ℕ → List Text → Known → Known
with_lines dialect number [] news = news
with_lines dialect number (line ∷ lines) news = with_lines dialect (number + 1) lines (with_line dialect number line news)

-- Each device that lines mention is told at the first line that does, but for those that this line or one before it assigns or asks for.
abbrev pub news_in : Dialect → List Text → List Finding
news_in dialect lines = (with_lines dialect 1 lines (record { devices = []; found = [] })).found

-- the devices that a line assigns or asks for
abbrev pub assigned_at : Dialect → Text → List Text
assigned_at dialect line = assigned_in dialect (command_text line)
