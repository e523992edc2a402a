-- What a contract sees of a writer, by its fields, and how far its cursor has come.
use Rattle.std.specs.Prelude.{ℕ, List}
use Rattle.image_write.specs.Copies.{IsPassed}
use Rattle.image_write.specs.Writing.{Writing}
use Rattle.image_write.specs.declared.copies.Cursor.{Cursor}
use Rattle.image_write.specs.declared.writer.Writer.TheInside.{Inside}

abbrev pub writing : Inside → Writing
writing w = record {
  info = w.info;
  extents = w.extents;
  table = w.table;
  first = w.first;
  written = w.written;
  block = w.block;
  entries = w.map;
  next = w.next;
  orig = w.cursor.orig;
  copy = w.cursor.copy;
  passed = w.cursor.passed;
}

-- the cursor has passed this number of pages with data
abbrev pub HasPassed : List ℕ → List ℕ → List ℕ → Cursor → ℕ → Type 0
HasPassed origs copies zeros cursor found = IsPassed origs copies zeros cursor.orig cursor.copy cursor.passed found
