pub mod ProgramFile
