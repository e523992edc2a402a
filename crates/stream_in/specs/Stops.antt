-- The reasons why an image doesn't come in, by kind.
use Rattle.std.specs.Prelude.{◌≡◌, ⊤}
use Rattle.plain_machine.specs.declared.reply.Left.TheVariants.{Same}
use Rattle.plain_machine.specs.declared.no_swap.NoSwap.{NoSwap}
use Rattle.stream_in.specs.declared.stop.InStop.{InStop}
use Rattle.stream_in.specs.declared.stop.InStop.TheVariants.{NoMemory, NoSlots, Stream, ReadFault, WriteFault}
use Rattle.stream_in.specs.declared.stop.InStop.TheVariants.{SyncFault}
use Rattle.stream_in.specs.declared.stop.InStop.TheVariants as stop

-- a call of the disk failed
abbrev pub IsDiskStop : InStop → Type 0
IsDiskStop NoMemory = ⊥
IsDiskStop (stop.NoSwap why) = ⊥
IsDiskStop (NoSlots free need) = ⊥
IsDiskStop (Stream fault) = ⊥
IsDiskStop (ReadFault left) = ⊤
IsDiskStop (WriteFault left) = ⊤
IsDiskStop (SyncFault left) = ⊤

-- the stops that marking an image may end with
abbrev pub IsOfHeader : InStop → Type 0
IsOfHeader NoMemory = ⊥
IsOfHeader (stop.NoSwap why) = ⊤
IsOfHeader (NoSlots free need) = ⊥
IsOfHeader (Stream fault) = ⊥
IsOfHeader (ReadFault left) = ⊤
IsOfHeader (WriteFault left) = ⊤
IsOfHeader (SyncFault left) = ⊤

-- what holds of the reason that NoSwap gives
abbrev pub IfNoSwap : InStop → (NoSwap → Type 0) → Type 0
IfNoSwap NoMemory P = ⊤
IfNoSwap (stop.NoSwap why) P = P why
IfNoSwap (NoSlots free need) P = ⊤
IfNoSwap (Stream fault) P = ⊤
IfNoSwap (ReadFault left) P = ⊤
IfNoSwap (WriteFault left) P = ⊤
IfNoSwap (SyncFault left) P = ⊤

-- the stops that writing a page may end with; if a disk call failed, the header block isn't written
abbrev pub IsOfPage : InStop → Type 0
IsOfPage NoMemory = ⊥
IsOfPage (stop.NoSwap why) = ⊥
IsOfPage (NoSlots free need) = ⊤
IsOfPage (Stream fault) = ⊥
IsOfPage (ReadFault left) = ⊥
IsOfPage (WriteFault left) = left ≡ Same
IsOfPage (SyncFault left) = left ≡ Same

-- the stops of a feed
abbrev pub IsOfFeed : InStop → Type 0
IsOfFeed NoMemory = ⊥
IsOfFeed (stop.NoSwap why) = ⊥
IsOfFeed (NoSlots free need) = ⊤
IsOfFeed (Stream fault) = ⊤
IsOfFeed (ReadFault left) = ⊥
IsOfFeed (WriteFault left) = left ≡ Same
IsOfFeed (SyncFault left) = left ≡ Same

-- the stops of a finish
abbrev pub IsOfFinish : InStop → Type 0
IsOfFinish NoMemory = ⊥
IsOfFinish (stop.NoSwap why) = ⊤
IsOfFinish (NoSlots free need) = ⊥
IsOfFinish (Stream fault) = ⊤
IsOfFinish (ReadFault left) = ⊤
IsOfFinish (WriteFault left) = ⊤
IsOfFinish (SyncFault left) = ⊤

-- the stops of an open
abbrev pub IsOfOpen : InStop → Type 0
IsOfOpen NoMemory = ⊤
IsOfOpen (stop.NoSwap why) = ⊤
IsOfOpen (NoSlots free need) = ⊥
IsOfOpen (Stream fault) = ⊥
IsOfOpen (ReadFault left) = left ≡ Same
IsOfOpen (WriteFault left) = ⊥
IsOfOpen (SyncFault left) = ⊥
