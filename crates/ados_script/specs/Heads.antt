-- The kind of a line of a script, by its first item as it is written, and the label of a Lab line.
use Rattle.std.specs.Prelude.{[], true, codes, if◌then◌else◌}
use Rattle.ados_text.specs.Text.{Text, is_same}
use Rattle.ados_items.specs.declared.items.Item.{Item}
use Rattle.ados_items.specs.declared.items.Item.TheVariants.{Word}
use Rattle.ados_items.specs.Items.{item_at, value_of, bytes_between}
use Rattle.ados_script.specs.declared.heads.Head.{Head}
use Rattle.ados_script.specs.declared.heads.Head.TheVariants.{If, Else, EndIf, EndSkip, Lab, Other}

-- the kind of a line with this first word, with case ignored
abbrev pub head_of_word : Text → Head
head_of_word word =
    if is_same word (codes "If") then If else
    (if is_same word (codes "Else") then Else else
    (if is_same word (codes "EndIf") then EndIf else
    (if is_same word (codes "EndSkip") then EndSkip else
    (if is_same word (codes "Lab") then Lab else Other))))

-- the kind of a line by its first item: only an unquoted word counts
abbrev pub head_of_item : Text → Item → Head
head_of_item line (Word from to) = head_of_word (bytes_between line from to)
head_of_item line _ = Other

-- the kind of a line, by its first item (`true`: a word ends at `=`)
abbrev pub head_of : Text → Head
head_of line = head_of_item line (item_at true line 0)

-- the text of the item after the first word of a line, given the first item; empty if that is not a word
abbrev pub second_item_text : Text → Item → Text
second_item_text line (Word from to) = value_of line (item_at true line to)
second_item_text line _ = []

-- the label of a Lab line: the text of its second item. It is empty if there is none, and for an open quote.
abbrev pub label_of : Text → Text
label_of line = second_item_text line (item_at true line 0)
