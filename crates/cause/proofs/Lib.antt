pub mod LineFault
