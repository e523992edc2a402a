-- What has been read of a command line.
use Rattle.std.specs.Prelude.{Option}
use Rattle.command_words.specs.LoaderWords.{AskedDump, Given, WantedDump, loader, machine}
use Rattle.command_words.specs.declared.loader.asked.Asked.{Asked}
use Rattle.command_words.specs.declared.loader.asked.Wanted.{Wanted}
use Rattle.command_words.specs.declared.loader.asked.Wanted.TheVariants.{Loader, Machine}
use Rattle.command_words.specs.declared.loader.options.Options.{Options}

abbrev pub given_by : Options → Given
given_by options = record {
  offset = options.offset;
  tables = options.tables;
  zones = options.zones.items;
  extents = options.extents.items;
}

abbrev pub wanted_by : Wanted → WantedDump
wanted_by Loader = loader
wanted_by (Machine tables) = machine tables

abbrev pub asked_by : Asked → AskedDump
asked_by asked = record {
  wanted = wanted_by asked.wanted;
  swap = asked.swap.now;
  offset = asked.offset;
  zones = asked.zones.items;
  extents = asked.extents.items;
}
