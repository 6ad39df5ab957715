-- Entries and contents that pass, with their fields. Assumes nothing.
--
-- entry_in, content_in       the fields of a node of which these are all the bytes, if it passes
-- entry_read, content_read   what the code's answer stands for
use Rattle.std.specs.Prelude.{cond, Some, None, Option}
use Rattle.nodes.specs.declared.record.Entry as code_entry
use Rattle.nodes.specs.declared.record.Content as code_content
use Rattle.nodes.specs.Fields.{all}
use Rattle.nodes.specs.Items.{Item, entry, content}
use Rattle.nodes.specs.Records.{Entry, Content, read_entry, read_content}
use Rattle.nodes.specs.Shown.{entry_shown, content_shown}

abbrev pub entry_in : Item → Option Entry
entry_in it = cond (all (entry it)) (Some (read_entry it)) None

abbrev pub content_in : Item → Option Content
content_in it = cond (all (content it)) (Some (read_content it)) None

abbrev pub entry_read : Option code_entry.Entry → Option Entry
entry_read None = None
entry_read (Some e) = Some (entry_shown e)

abbrev pub content_read : Option code_content.Content → Option Content
content_read None = None
content_read (Some e) = Some (content_shown e)
