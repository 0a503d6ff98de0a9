-- Entries: the object at a place.
use Rattle.std.specs.Prelude.{◌≡◌, ℕ, List, [], ◌∷◌, Bool, true, false, Option, Some, None, length, refl}
use Rattle.std.specs.Coded.{Coded, code_by, coded×, coded_ℕ, coded_bool, coded_list, coded_option}
use Rattle.ados_text.specs.Text.{Text, Bytes}
use Rattle.ados_text.specs.Name.{Name}
use Rattle.ados_ram.specs.Place.{Key}
use Rattle.ados_ram.specs.declared.entries.Bits.{Bits}
use Rattle.ados_ram.specs.declared.entries.Body.{Body}
use Rattle.ados_ram.specs.declared.entries.Body.TheVariants.{Directory, File}
use Rattle.ados_ram.specs.declared.entries.Entry.{Entry}

-- the object is a directory
abbrev pub is_directory_body : Body → Bool
is_directory_body Directory = true
is_directory_body (File bytes) = false

abbrev pub is_directory : Entry → Bool
is_directory e = is_directory_body e.body

-- the bytes of a file; a directory holds none
abbrev pub bytes_of_body : Body → Bytes
bytes_of_body Directory = []
bytes_of_body (File bytes) = bytes

abbrev pub bytes_of : Entry → Bytes
bytes_of e = bytes_of_body e.body

-- the bytes of a file, if there is one
abbrev pub bytes_or_none : Option Bytes → Bytes
bytes_or_none None = []
bytes_or_none (Some bytes) = bytes

abbrev pub size_of : Entry → ℕ
size_of e = length (bytes_of e)

-- the bits of a new object: ----rwed
abbrev pub fresh_bits : Bits
fresh_bits = record { hold = false; script = false; pure = false; archive = false; read = true; write = true; execute = true; delete = true }

-- the letter of a bit that is set, and otherwise `-`
abbrev pub letter : Bool → ℕ → ℕ
letter true c = c
letter false c = 45

-- the bits as `hsparwed`
abbrev pub bits_text : Bits → Bytes
bits_text b =
    letter b.hold 104 ∷ letter b.script 115 ∷ letter b.pure 112 ∷ letter b.archive 97
    ∷ letter b.read 114 ∷ letter b.write 119 ∷ letter b.execute 101 ∷ letter b.delete 100 ∷ []

-- the same bits without bit a
abbrev pub without_archive_bit : Bits → Bits
without_archive_bit b = record b { archive = false }

-- a new directory, with nothing in it
abbrev pub new_directory : Name → Entry
new_directory name = record { name = name; body = Directory; bits = fresh_bits; comment = [] }

-- a file that holds the bytes: a new one with the name and the bits, or the old one, which keeps its name, comment and
-- bits except bit a
abbrev pub file_entry_with_bits : Bits → Option Entry → Name → Bytes → Entry
file_entry_with_bits bits None name bytes = record { name = name; body = File bytes; bits = bits; comment = [] }
file_entry_with_bits bits (Some e) name bytes = record e { body = File bytes; bits = without_archive_bit e.bits }

-- the same, if a new one has the bits of a new object
abbrev pub file_entry : Option Entry → Name → Bytes → Entry
file_entry o name bytes = file_entry_with_bits fresh_bits o name bytes

-- an entry with other bits, or another comment
abbrev pub with_bits : Bits → Entry → Entry
with_bits bits e = record e { bits = bits }

abbrev pub with_comment : Text → Entry → Entry
with_comment comment e = record e { comment = comment }

-- an entry that moved, by its path from the object that was renamed: that object itself takes the new name
abbrev pub renamed_entry : Name → Key → Entry → Entry
renamed_entry name [] e = record e { name = name }
renamed_entry name (n ∷ ns) e = e

-- how an entry is stored: as its fields
abbrev pub option_of_body : Body → Option Bytes
option_of_body Directory = None
option_of_body (File bytes) = Some bytes

abbrev pub body_of_option : Option Bytes → Body
body_of_option None = Directory
body_of_option (Some bytes) = File bytes

abbrev pub body_back : (b : Body) → body_of_option (option_of_body b) ≡ b
body_back Directory = refl
body_back (File bytes) = refl

abbrev pub coded_body : Coded Body
coded_body = code_by (Option (List ℕ)) (coded_option (coded_list coded_ℕ)) option_of_body body_of_option body_back

abbrev pub coded_bits : Coded Bits
coded_bits =
    code_by (Bool × (Bool × (Bool × (Bool × (Bool × (Bool × (Bool × Bool)))))))
    (coded× coded_bool (coded× coded_bool (coded× coded_bool (coded× coded_bool (coded× coded_bool (coded× coded_bool (coded× coded_bool coded_bool)))))))
    (λ b. (b.hold, (b.script, (b.pure, (b.archive, (b.read, (b.write, (b.execute, b.delete))))))))
    (λ p. record { hold = p.0; script = p.1.0; pure = p.1.1.0; archive = p.1.1.1.0; read = p.1.1.1.1.0; write = p.1.1.1.1.1.0; execute = p.1.1.1.1.1.1.0; delete = p.1.1.1.1.1.1.1 })
    (λ _. refl)

abbrev pub coded_entry : Coded Entry
coded_entry =
    code_by (List ℕ × (Body × (Bits × List ℕ)))
    (coded× (coded_list coded_ℕ) (coded× coded_body (coded× coded_bits (coded_list coded_ℕ))))
    (λ e. (e.name, (e.body, (e.bits, e.comment))))
    (λ p. record { name = p.0; body = p.1.0; bits = p.1.1.0; comment = p.1.1.1 })
    (λ _. refl)
