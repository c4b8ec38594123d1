-- The words of a record. Assumes nothing.
use Rattle.std.specs.Prelude.{ℕ, List}
use Rattle.book_file.specs.Bytes.{u64_at}
use Rattle.replay.specs.declared.records.Words.{Words}

-- the eight words of a record: the operation and its seven arguments
abbrev pub words_of : List ℕ → Words
words_of bytes =
    record {
      operation = u64_at bytes 0;
      first = u64_at bytes 8;
      second = u64_at bytes 16;
      third = u64_at bytes 24;
      fourth = u64_at bytes 32;
      fifth = u64_at bytes 40;
      sixth = u64_at bytes 48;
      seventh = u64_at bytes 56;
    }
