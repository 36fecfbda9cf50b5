mod Serving
mod Calling
mod Cutting
