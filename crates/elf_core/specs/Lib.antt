pub mod Elf
pub mod Machines
pub mod Numbers
